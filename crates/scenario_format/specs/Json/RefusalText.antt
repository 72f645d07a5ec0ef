-- The text of a refusal.
use Rattle.std.specs.Prelude.{ℕ, List, [], ◌∷◌, ◌++◌, codes}
use Rattle.scenario_format.specs.declared.refusal.LimitName.{LimitName}
use Rattle.scenario_format.specs.declared.refusal.LimitName.TheVariants as limit
use Rattle.scenario_format.specs.declared.refusal.RefusalKind.{RefusalKind}
use Rattle.scenario_format.specs.declared.refusal.RefusalKind.TheVariants.{NotJson, BadField, BadFlag, BadOp, Limit}
use Rattle.scenario_format.specs.declared.refusal.RefusalKind.TheVariants.{FrameTwice, FrameAbsent, UnknownName}
use Rattle.scenario_format.specs.declared.refusal.RefusalKind.TheVariants.{BadHeader}
use Rattle.scenario_format.specs.declared.refusal.Refusal.{Refusal}

-- a limit's name
abbrev pub limit_text : LimitName → List ℕ
limit_text limit.Frames = codes "frames"
limit_text limit.FrameNumber = codes "frame_number"
limit_text limit.MaxBpages = codes "max_bpages"
limit_text limit.Drivers = codes "drivers"
limit_text limit.Order = codes "order"
limit_text limit.Steps = codes "steps"
limit_text limit.Entries = codes "entries"
limit_text limit.Access = codes "access"
limit_text limit.Reads = codes "reads"
limit_text limit.Buffer = codes "buffer"
limit_text limit.Loaded = codes "loaded"

-- the name of a refusal's kind; for a limit it is followed by the limit's name in round brackets
abbrev pub kind_text : RefusalKind → List ℕ
kind_text NotJson = codes "NotJson"
kind_text BadField = codes "BadField"
kind_text BadFlag = codes "BadFlag"
kind_text BadOp = codes "BadOp"
kind_text (Limit name) = codes "Limit(" ++ limit_text name ++ codes ")"
kind_text FrameTwice = codes "FrameTwice"
kind_text FrameAbsent = codes "FrameAbsent"
kind_text UnknownName = codes "UnknownName"
kind_text BadHeader = codes "BadHeader"

-- a space and the path, if the path is not empty
abbrev pub behind_space : List ℕ → List ℕ
behind_space [] = []
behind_space (b ∷ bs) = codes " " ++ b ∷ bs

-- the text of a refusal: its kind, and its path if that is not empty
abbrev pub refusal_text : Refusal → List ℕ
refusal_text r = kind_text r.kind ++ behind_space r.path
