-- Where in a document a value is.
use Rattle.std.specs.Prelude.{ℕ, List, [], ◌++◌, codes}
use Rattle.std.specs.Fmt.{decimal}

-- the place of a value: the top of the document, a key of an object, or an item of a list, counted from 0
pub data DocumentPlace : Type 0 where
  top : DocumentPlace
  key : DocumentPlace → List ℕ → DocumentPlace
  item : DocumentPlace → ℕ → DocumentPlace

-- the text of a place: keys are joined by a dot, and a place in a list is in square brackets
abbrev pub path_text : DocumentPlace → List ℕ
path_text top = []
path_text (key top name) = name
path_text (key (key p outer) name) = path_text (key p outer) ++ codes "." ++ name
path_text (key (item p n) name) = path_text (item p n) ++ codes "." ++ name
path_text (item p n) = path_text p ++ codes "[" ++ decimal n ++ codes "]"
