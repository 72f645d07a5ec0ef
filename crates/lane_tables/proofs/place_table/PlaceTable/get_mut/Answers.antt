use base.Fml.{GName}
use borrow.Follows.Closed.{read_of}
use mathlib.Core.Option.{Option, none, some}
use Rattle.std.proofs.Common.{◌≡◌, ◌∙◌, ap, sym, refl, inl, inr, None, Some, get_or}
use Rattle.std.specs.Option.{ghost_name_of}
use Rattle.lane_tables.proofs.SlotLemmas.{found_at, viewed-write}
use Rattle.lane_tables.proofs.place_table.PlaceTable.get_mut.Goals as goal

-- two values that are lent under one name and end equal are read as equal
read_alike : {D E : Type 0} (n : Option GName) (F G : E → D) (v w : D) → ((e : E) → F e ≡ G e) → v ≡ w →
    read_of n F v ≡ read_of n G w
read_alike none F G v w same at_none = ap inr at_none
read_alike (some name) F G v w same at_none =
    let alike : F ≡ G = λ i e. same e i in ap (λ f. inl (name, f)) alike

pub returns-in-Some : goal.returns-in-Some
returns-in-Some g c =
    let keys = c.self.inside.keys.items in
    let values = c.self.inside.values in
    let stands = c.key_at.ensures ∙ ap (λ keys. get_or keys c.args.place None) c.deref.ensures.value in
    let there = sym stands ∙ c.in-Some.is in
    let found = found_at keys values c.args.self.now.map c.args.place (Some c.in-Some.key)
    (ap (λ t. t.map) c.self.view_is) (sym c.in-Some.is ∙ stands) in (
      read_alike (ghost_name_of c.get_mut.result) _ _ _ _
          (λ w. viewed-write keys values c.args.place c.in-Some.key w there c.self.invariant
          ∙ rw (← c.self.view_is) refl) c.self.view_is,
      record { writes_back = tt; value = c.get_mut.ensures.value ∙ sym found },
    )

pub returns-in-None : goal.returns-in-None
returns-in-None g c =
    let stands = c.key_at.ensures ∙ ap (λ keys. get_or keys c.args.place None) c.deref.ensures.value in
    let found = found_at c.self.inside.keys.items c.self.inside.values c.args.self.now.map c.args.place None
    (ap (λ t. t.map) c.self.view_is) (sym c.in-None.is ∙ stands) in
    (rw (← c.self.view_is) refl, record { writes_back = tt; value = sym found })
