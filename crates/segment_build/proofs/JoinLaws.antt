-- One more piece after segments, by the last segment.
use Rattle.std.proofs.Common.{◌≡◌, suc, ◌+◌, ◌-◌, List, [], ◌∷◌, ◌++◌, length, true, false, cond, refl, ap, sym, ◌∙◌}
use Rattle.std.proofs.Common.{arith, length-append}
use Rattle.std.specs.Prelude.{Option, Some, None, slice_get, slice_set}
use Rattle.std.specs.Prelude.{Result, Ok, Err, IsOk}
use Rattle.std.proofs.lemmas.Bool.{false≢true}
use Rattle.busdma_machine.specs.declared.machine.address.Segment.{Segment}
use Rattle.busdma_machine.specs.declared.tags.tag.TagLimits.{TagLimits}
use Rattle.busdma_rules.specs.Segments.Segmentation.{joint, may_join}
use Rattle.segment_build.specs.Joining.{extent_added, extents_joined}

-- the last segment, and the segments after one that is not the last
abbrev last_of : List Segment → Option Segment
last_of segments = slice_get segments (length segments - 1)

last_behind : (s r : Segment) (rs : List Segment) → last_of (s ∷ r ∷ rs) ≡ last_of (r ∷ rs)
last_behind s r rs = let e : length (s ∷ r ∷ rs) - 1 ≡ length rs + 1 =
    omega arith in let f : length (r ∷ rs) - 1 ≡ length rs = omega arith in rw (e, f) (one_on s r rs)
  where
    one_on : (s r : Segment) (rs : List Segment) →
        slice_get (s ∷ r ∷ rs) (length rs + 1) ≡ slice_get (r ∷ rs) (length rs)
    one_on s r rs = let e : length rs + 1 ≡ suc (length rs) = omega arith in rw e refl

set_behind : (s r j : Segment) (rs : List Segment) →
    slice_set (s ∷ r ∷ rs) (length (s ∷ r ∷ rs) - 1) j ≡ s ∷ slice_set (r ∷ rs) (length (r ∷ rs) - 1) j
set_behind s r j rs = let e : length (s ∷ r ∷ rs) - 1 ≡ suc (length rs) =
    omega arith in let f : length (r ∷ rs) - 1 ≡ length rs = omega arith in rw (e, f) refl

joined_case : (t : TagLimits) (s p j : Segment) → extents_joined t (Some s) p ≡ Some j →
    (may_join t s p ≡ true) × (joint s p ≡ j)
joined_case t s p j h =
    (elim (may_join t s p) as (λ b. may_join t s p ≡ b → cond b (Some (joint s p)) None ≡ Some j →
    (may_join t s p ≡ true) × (joint s p ≡ j)) [
      | true ↦ λ w e. (w, cc)
      | false ↦ λ w e. absurd cc
    ]) refl h

apart_case : (t : TagLimits) (s p : Segment) → extents_joined t (Some s) p ≡ None → may_join t s p ≡ false
apart_case t s p h =
    (elim (may_join t s p) as (λ b. may_join t s p ≡ b →
    cond b (Some (joint s p)) None ≡ None → may_join t s p ≡ false) [
      | true ↦ λ w e. absurd cc
      | false ↦ λ w e. w
    ]) refl h

-- the piece joins the last segment
pub added_joins : (t : TagLimits) (segments : List Segment) (p j : Segment) →
    extents_joined t (slice_get segments (length segments - 1)) p ≡ Some j →
    extent_added t segments p ≡ slice_set segments (length segments - 1) j
added_joins t [] p j h = absurd cc
added_joins t (s ∷ []) p j h = let c = joined_case t s p j h in rw (c.0, c.1) refl
added_joins t (s ∷ r ∷ rs) p j h =
    ap (λ xs. s ∷ xs) (added_joins t (r ∷ rs) p j (ap (λ o. extents_joined t o p) (sym (last_behind s r rs)) ∙ h))
    ∙ sym (set_behind s r j rs)

-- the piece does not join the last segment
pub added_begins : (t : TagLimits) (segments : List Segment) (p : Segment) →
    extents_joined t (slice_get segments (length segments - 1)) p ≡ None → extent_added t segments p ≡ segments ++ p
    ∷ []
added_begins t [] p h = refl
added_begins t (s ∷ []) p h = rw (apart_case t s p h) refl
added_begins t (s ∷ r ∷ rs) p h =
    ap (λ xs. s ∷ xs) (added_begins t (r ∷ rs) p (ap (λ o. extents_joined t o p) (sym (last_behind s r rs)) ∙ h))

pub longer_by_one : (segments : List Segment) (p : Segment) → length (segments ++ p ∷ []) ≡ length segments + 1
longer_by_one segments p = simp length-append (omega arith)

-- a result that is Ok is no error
pub not_refused : {T E : Type 0} (r : Result T E) (e : E) → r ≡ Err e → IsOk r → ⊥
not_refused (Ok x) e h k = absurd cc
not_refused (Err y) e h k = false≢true k
