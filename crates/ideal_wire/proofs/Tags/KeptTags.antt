-- What the tags of maps say is unchanged when tags come and go.
use Rattle.std.proofs.Common.{◌≡◌, ◌≢◌, ℕ, ◌==◌, Bool, true, false, cond, Option, Some, None, refl, ap, sym, ◌∙◌}
use Rattle.std.proofs.Common.{arith, eq-eqb, unwrap_or, option_map}
use Rattle.std.proofs.lemmas.Bool.{false≢true, ne_eqb, eqb-true}
use Rattle.std.specs.Option.{option_map_or}
use Rattle.std.specs.Ordering.{nat_cmp}
use Rattle.std.specs.FinMap.{FinMap, get, insert, remove, entries, get-entries}
use Rattle.busdma_machine.specs.declared.tags.tag.TagLimits.{TagLimits}
use Rattle.ideal_lane.specs.Loads.{is_device, limits_of, no_limits}
use Rattle.ideal_lane.specs.Standing.{Stands}
use Rattle.ideal_lane.specs.State.{LaneState, LaneTag, LaneMap}
use Rattle.ideal_lane.specs.Tags.{has_maps}
use Rattle.ideal_lane.proofs.Lookups.{get_put, get_cut}
use Rattle.ideal_wire.proofs.Faithful.Lent.{find_any}

-- ---- what is looked up after a change

pub put-there : {X : Type 0} (m : FinMap nat_cmp X) (k : ℕ) (v : X) → get (insert m k v) k ≡ Some v
put-there m k v = get_put m k v k ∙ ap (λ b. cond b (Some v) (get m k)) (eq-eqb k k refl)

pub put-off : {X : Type 0} (m : FinMap nat_cmp X) (k n : ℕ) (v : X) → n ≢ k → get (insert m k v) n ≡ get m n
put-off m k n v off = get_put m k v n ∙ ap (λ b. cond b (Some v) (get m n)) (ne_eqb n k off)

pub cut-there : {X : Type 0} (m : FinMap nat_cmp X) (k : ℕ) → get (remove m k) k ≡ None
cut-there m k = get_cut m k k ∙ ap (λ b. cond b None (get m k)) (eq-eqb k k refl)

pub cut-off : {X : Type 0} (m : FinMap nat_cmp X) (k n : ℕ) → n ≢ k → get (remove m k) n ≡ get m n
cut-off m k n off = get_cut m k n ∙ ap (λ b. cond b None (get m n)) (ne_eqb n k off)

-- ---- the limits of maps

-- what a tag says: its limits, and whether its device is behind an IOMMU
abbrev pub says-in : Option LaneTag → TagLimits × Bool
says-in q =
    (unwrap_or (option_map (λ (t : LaneTag). t.limits) q) no_limits, option_map_or (λ (t : LaneTag). t.device) q false)

-- what the tag of a map says
abbrev pub tag-says : LaneState → LaneMap → TagLimits × Bool
tag-says l o = (limits_of l o, is_device l o)

-- what the tags of maps say stays
abbrev pub KeepsTags : LaneState → LaneState → Type 0
KeepsTags l l' = (n : ℕ) (o : LaneMap) → get l.maps n ≡ Some o → tag-says l' o ≡ tag-says l o

-- another tag at a place, of which something holds as of the one that was there
pub put-keeps : {X : Type 0} (f : Option LaneTag → X) (l : LaneState) → Stands l →
    (l' : LaneState) (at : ℕ) (x : LaneTag) →
    l'.tags ≡ insert l.tags at x → ((g : LaneTag) → get l.tags at ≡ Some g → f (Some g) ≡ f (Some x)) →
    (n : ℕ) (o : LaneMap) → get l.maps n ≡ Some o → f (get l'.tags o.tag) ≡ f (get l.tags o.tag)
put-keeps {X} f l stands l' at x tags same n o there = by (o.tag == at) refl
  where
    look : (b : Bool) → (o.tag == at) ≡ b → f (get l'.tags o.tag) ≡ f (cond b (Some x) (get l.tags o.tag))
    look b e = (λ i. f (get (tags i) o.tag)) ∙ ap f (get_put l.tags at x o.tag
        ∙ ap (λ b. cond b (Some x) (get l.tags o.tag)) e)

    by : (b : Bool) → (o.tag == at) ≡ b → f (get l'.tags o.tag) ≡ f (get l.tags o.tag)
    by true e =
        let st = stands.each n o there in
        look true e ∙ sym (same st.tag (ap (get l.tags) (sym (eqb-true o.tag at e)) ∙ st.there))
        ∙ sym (ap f st.there)
    by false e = look false e

-- another tag at a place, that says what the one says that was there
pub keeps-put : (l : LaneState) → Stands l → (l' : LaneState) (at : ℕ) (x : LaneTag) → l'.tags ≡ insert l.tags at x →
    ((g : LaneTag) → get l.tags at ≡ Some g → says-in (Some g) ≡ says-in (Some x)) → KeepsTags l l'
keeps-put = put-keeps says-in

pub new-tag : {A : Type 0} (l : LaneState) → Stands l → (g : LaneTag) → get l.tags l.place ≡ Some g → A
new-tag l stands g e = let none = stands.no_tag l.place (omega arith) in absurd (cc)

-- a tag without maps goes
pub untagged : (l : LaneState) (t : ℕ) → has_maps l t ≡ false → KeepsTags l (record l { tags = remove l.tags t })
untagged l t none n o there = by (o.tag == t) refl
  where
    by : (b : Bool) → (o.tag == t) ≡ b → says-in (get (remove l.tags t) o.tag) ≡ says-in (get l.tags o.tag)
    by true e =
        absurd
        (false≢true
        (sym none ∙ find_any (λ y. y.1.tag == t) (entries l.maps) n o (sym (get-entries l.maps n) ∙ there) e))
    by false e = ap says-in (get_cut l.tags t o.tag ∙ ap (λ b. cond b None (get l.tags o.tag)) e)
