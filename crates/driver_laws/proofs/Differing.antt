-- Drivers that differ in their work, and drivers with the same contents.
use Rattle.std.proofs.Common.{◌≡◌, ℕ, ◌+◌, List, map, unwrap_or, refl, ap, ◌∙◌}
use Rattle.std.specs.FinMap.{FinMap, get}
use Rattle.std.specs.Option.{option_map}
use Rattle.std.specs.Ordering.{nat_cmp}
use Rattle.busdma_machine.specs.Judging.{judged}
use Rattle.busdma_machine.specs.Runs.{run_of}
use Rattle.busdma_base.specs.declared.scenarios.buffer.Buffer.{Buffer}
use Rattle.busdma_base.specs.declared.scenarios.buffer.Buffer.TheVariants as buffer
use Rattle.busdma_base.specs.declared.scenarios.script.Place.{Place}
use Rattle.busdma_base.specs.declared.scenarios.script.Place.TheVariants.{At, In}
use Rattle.busdma_rules.specs.Memory.Translation.{physical_or_0, unreached}
use Rattle.ideal_lane.specs.Accesses.{values}
use Rattle.ideal_lane.specs.IdealMemory.{value}
use Rattle.ideal_lane.specs.Places.{begin_of, first_unreached, virtual_at}
use Rattle.ideal_lane.specs.State.{LaneMemory, LaneState}
use Rattle.ideal_lane.specs.Turns.{bio_at, flat_bio}
use Rattle.ideal_wire.specs.WireStep.{place_bytes}
use Rattle.ideal_wire.proofs.Laid.SameBytes.{physical-same}
use Rattle.driver_laws.specs.Steps.{DiffersInWork, KeepsContents}

-- the work of one driver in place of another's
abbrev pub worked : LaneState → LaneState → LaneState
worked n l = record l { script = n.script; place = n.place; due = n.due; queue = n.queue }

pub then-differs : (l k n : LaneState) → DiffersInWork l k → DiffersInWork k n → DiffersInWork l n
then-differs l k n p q = q ∙ ap (worked n) p

-- a driver that differs in its work has the same contents
pub same-contents : (l n : LaneState) → DiffersInWork l n → KeepsContents l n
same-contents l n p = record {
  pages = ap (λ (x : LaneState). x.pages) p;
  mems = ap (λ (x : LaneState). x.mems) p;
  memory = ap (λ (x : LaneState). x.memory) p;
}

pub then-keeps : (l k n : LaneState) → KeepsContents l k → KeepsContents k n → KeepsContents l n
then-keeps l k n p q = record {
  pages = q.pages ∙ p.pages;
  mems = q.mems ∙ p.mems;
  memory = q.memory ∙ p.memory;
}

-- what is at a place depends on the driver's pages and memories only
module _ (l k : LaneState) (mems : k.mems ≡ l.mems) (pages : k.pages ≡ l.pages) where
  pub same-virtual : (p : Place) → virtual_at k p ≡ virtual_at l p
  same-virtual (At va) = refl
  same-virtual (In mem off) =
      ap (λ (ms : FinMap nat_cmp LaneMemory). option_map (λ (x : LaneMemory). begin_of x + off) (get ms mem)) mems

  -- the first virtual address of a place
  abbrev from : LaneState → Place → ℕ
  from x p = unwrap_or (virtual_at x p) 0

  pub same-place : (p : Place) (len : ℕ) → place_bytes k p len ≡ place_bytes l p len
  same-place p len =
      λ i. map (physical_or_0 (physical-same l k mems pages i)) (run_of (unwrap_or (same-virtual p i) 0) len)

  pub same-reached : (p : Place) (len : ℕ) →
      first_unreached k (from k p) len ≡ first_unreached l (from l p) len
  same-reached p len =
      λ i. judged (unreached (physical-same l k mems pages i)) 0 (run_of (unwrap_or (same-virtual p i) 0) len)

  pub same-bio : (x : Buffer) → bio_at k x ≡ bio_at l x
  same-bio (buffer.Flat place len) = ap (option_map (flat_bio len)) (same-virtual place)
  same-bio (buffer.Vector spans) = refl
  same-bio (buffer.Mbuf chain) = refl
  same-bio (buffer.Bio b) = refl
  same-bio (buffer.Send chain clusters) = refl

-- the same contents have the same values
pub same-values : (l k : LaneState) → KeepsContents l k → (xs ys : List ℕ) → xs ≡ ys → values k xs ≡ values l ys
same-values l k c xs ys e = λ i. map (λ a. value (c.memory i a)) (e i)
