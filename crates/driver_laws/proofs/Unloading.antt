-- What an unload leaves of the driver's memory.
use Rattle.std.proofs.Common.{◌≡◌, ℕ, suc, ◌||◌, Bool, true, false, not, List, [], ◌∷◌, Some, slice_get, cond}
use Rattle.std.proofs.Common.{refl, ap, sym, ◌∙◌}
use Rattle.std.proofs.lemmas.Bool.{false≢true}
use Rattle.std.specs.List.{filter}
use Rattle.busdma_base.specs.declared.journals.answer.Answer.TheVariants as answer
use Rattle.busdma_rules.specs.Lending.Loans.{addresses_of, loan_of, to_write}
use Rattle.busdma_rules.specs.Lending.SyncEffects.{lost_by_forgetting, synced}
use Rattle.busdma_rules.specs.Tags.SyncOps.{postread}
use Rattle.busdma_rules.specs.declared.position.Position.{Position}
use Rattle.ideal_lane.specs.Asking.{Asking, by_reply}
use Rattle.ideal_lane.specs.IdealMemory.{forgotten}
use Rattle.ideal_lane.specs.Loads.{unpaged}
use Rattle.ideal_lane.specs.Outcomes.{Outcome, gives, load_length}
use Rattle.ideal_lane.specs.State.{LaneState}
use Rattle.ideal_lane.specs.Syncs.{sync}
use Rattle.ideal_lane.specs.Unloads.{loan_forgotten, pages_of, unload, unmapped}
use Rattle.ideal_lane.proofs.Refusing.{unloaded}
use Rattle.ideal_wire.specs.Centre.{IsExclusive}
use Rattle.driver_laws.specs.Steps.{IsStep, KeepsContents}
use Rattle.driver_laws.proofs.Accessing.{Ends, not-done}
use Rattle.driver_laws.proofs.Allowed.{marks}
use Rattle.driver_laws.proofs.Differing.{same-contents, then-keeps}
use Rattle.driver_laws.proofs.Syncing.{sync-loans}
use Rattle.driver_laws.proofs.Unlent.{postread-ends}

module _ (k : LaneState) (m : ℕ) where
  record IsUnloaded (n : LaneState) : Type 0 where
    pub memory : n.memory ≡ forgotten (lost_by_forgetting k.loans m) k.memory
    pub pages : n.pages ≡ k.pages
    pub mems : n.mems ≡ k.mems

  abbrev Unloads : Asking Outcome → Type 0
  Unloads = Ends answer.Done IsUnloaded

  unloads : Unloads (unload m k)
  unloads =
      unloaded k Unloads (λ x r e. absurd (not-done x e)) m
      (λ o. gives (unmapped o (unpaged m o (pages_of o.stage) (loan_forgotten m k))) answer.Done)
      (λ o there is r e. record { memory = refl; pages = refl; mems = refl })

-- an unload whose map lends no byte to write changes no byte
pub unload-contents : (l n : LaneState) (m : ℕ) → IsStep (unload m) l n answer.Done →
    lost_by_forgetting l.loans m ≡ [] → KeepsContents l n
unload-contents l n m s none =
    let k : LaneState = s.begun in
    let h = unloads k m s.reply s.answer in
    let x : LaneState = (by_reply (unload m k) s.reply).lane in
    let none' : lost_by_forgetting k.loans m ≡ [] =
    ap (λ (y : LaneState). lost_by_forgetting y.loans m) s.same ∙ none in
    then-keeps l k n (same-contents l k s.same)
    (then-keeps k x n (record {
      pages = h.pages;
      mems = h.mems;
      memory = h.memory ∙ ap (λ keys. forgotten keys k.memory) none';
    }) (same-contents x n s.left))

-- positions of which none is lent to write
pub filter-out : (ps : List Position) → ((i : ℕ) (p : Position) → slice_get ps i ≡ Some p → p.to_write ≡ false) →
    filter to_write ps ≡ []
filter-out [] h = refl
filter-out (p ∷ ps) h =
    ap (λ b. cond b (p ∷ filter to_write ps) (filter to_write ps)) (h 0 p refl)
    ∙ filter-out ps (λ i q at. h (suc i) q at)

pub not-true : (b : Bool) → not b ≡ true → b ≡ false
not-true true e = absurd (false≢true e)
not-true false e = refl

or-second : (a b : Bool) → (a || b) ≡ false → b ≡ false
or-second true b e = absurd (cc)
or-second false b e = e

pub postread-unload : (l n p : LaneState) (m ops : ℕ) → IsExclusive n.loans → IsStep (sync m ops) l n answer.Done →
    postread ops ≡ true → IsStep (unload m) n p answer.Done → KeepsContents n p
postread-unload l n p m ops exclusive syncs post ends =
    unload-contents n p m ends (ap addresses_of (filter-out (loan_of n.loans m).positions ended))
  where
    loans : n.loans ≡ synced l.loans m 0 (load_length l m) ops
    loans = sync-loans l n m ops syncs

    ended : (i : ℕ) (q : Position) → slice_get (loan_of n.loans m).positions i ≡ Some q → q.to_write ≡ false
    ended i q at =
        by (loan_of n.loans m).coherent refl
        (ap (λ x. (loan_of x m).coherent || not q.to_write) loans
        ∙ marks l.loans m ops (λ r. not r.to_write) (postread-ends ops post) i q
        (sym (ap (λ x. slice_get (loan_of x m).positions i) loans) ∙ at))
      where
        by : (b : Bool) → (loan_of n.loans m).coherent ≡ b →
            ((loan_of n.loans m).coherent || not q.to_write) ≡ true → q.to_write ≡ false
        by true e h = or-second q.to_read q.to_write (exclusive.unlent m i q e at)
        by false e h = not-true q.to_write (ap (λ b. b || not q.to_write) (sym e) ∙ h)
