-- Transfers: what the device reads of what the driver wrote, and the driver of what the device wrote.
use Rattle.std.proofs.Common.{◌≡◌, ℕ, true, List, length, map, Some, slice_get, is_some, ap, sym, ◌∙◌, subst, arith}
use Rattle.std.proofs.lemmas.List.{length-map, take_all}
use Rattle.busdma_machine.specs.declared.machine.address.Segment.{Segment}
use Rattle.busdma_machine.specs.declared.report.Judged.TheVariants.{Fine}
use Rattle.busdma_base.specs.declared.journals.answer.Answer.TheVariants as answer
use Rattle.busdma_base.specs.declared.scenarios.buffer.Buffer.TheVariants.{Flat}
use Rattle.busdma_base.specs.declared.scenarios.script.Item.{Item}
use Rattle.busdma_base.specs.declared.scenarios.script.Place.{Place}
use Rattle.busdma_rules.specs.Lending.Loans.{addresses_of, load_bytes, loan_of}
use Rattle.busdma_rules.specs.Tags.SyncOps.{postread, prewrite}
use Rattle.busdma_rules.specs.declared.position.Position.{Position}
use Rattle.busdma_rules.proofs.Memory.Paged.{IsPaged}
use Rattle.ideal_lane.specs.Accesses.{cpu_read, cpu_write, dev_read, dev_write, values}
use Rattle.ideal_lane.specs.IdealMemory.{value, written}
use Rattle.ideal_lane.specs.Places.{first_unreached, physical}
use Rattle.ideal_lane.specs.State.{LaneState}
use Rattle.ideal_lane.specs.Syncs.{sync}
use Rattle.ideal_lane.specs.Turns.{load_buffer}
use Rattle.ideal_wire.specs.Apart.{IsApart}
use Rattle.ideal_wire.specs.Laid.{AreLaid}
use Rattle.ideal_wire.specs.Machine.{IsInMachine}
use Rattle.ideal_wire.specs.WireStep.{place_bytes}
use Rattle.ideal_wire.proofs.Faithful.Twins.{values-written}
use Rattle.ideal_wire.proofs.Faithful.Wiring.{own-forgotten}
use Rattle.ideal_wire.proofs.Laid.SameBytes.{physical-same}
use Rattle.ideal_wire.proofs.Loads.Reaching.{paged}
use Rattle.driver_laws.specs.Steps.{IsStep, KeepsContents, mapped_bytes}
use Rattle.driver_laws.proofs.Accessing.{begin_at, dev_read-is, dev_write-is, read-is, write-is}
use Rattle.driver_laws.proofs.Differing.{same-contents, same-place, same-reached, same-values, then-keeps}
use Rattle.driver_laws.proofs.Loading.{flat-mapped, load-contents}
use Rattle.driver_laws.proofs.Once.{bytes-length, bytes-once, bytes-own}
use Rattle.driver_laws.proofs.Syncing.{postread-keeps, prewrite-keeps, sync-alone, sync-contents, sync-forgets}
use Rattle.driver_laws.proofs.Syncing.{sync-mapped, sync-mems, sync-pages}

pub place-length : (l : LaneState) (place : Place) (len : ℕ) → length (place_bytes l place len) ≡ len
place-length l place len = bytes-length l (begin_at l place) len

-- the range of as many bytes as a load has is the complete load
pub whole-load : (l : LaneState) (m len : ℕ) (bytes : List ℕ) → mapped_bytes l m ≡ bytes → length bytes ≡ len →
    load_bytes l.loans m 0 len ≡ bytes
whole-load l m len bytes are long =
    let count : length (loan_of l.loans m).positions ≡ len =
    sym (length-map (loan_of l.loans m).positions (λ (p : Position). p.pa)) ∙ ap length are ∙ long in
    ap addresses_of (take_all len (loan_of l.loans m).positions (omega (arith, count))) ∙ are

-- what was written at a place is there
pub write-kept : (l n : LaneState) (place : Place) (vs : List ℕ) → AreLaid l → IsInMachine l → IsApart l →
    IsStep (cpu_write place vs) l n answer.Done → values n (place_bytes n place (length vs)) ≡ vs
write-kept l n place vs laid machine apart s =
    let h = write-is l n place vs s in
    let x : LaneState = record l { memory = written (place_bytes l place (length vs)) vs l.memory } in
    let c : KeepsContents x n = same-contents x n h.0 in
    let keys : List ℕ = place_bytes l place (length vs) in
    same-values x n c (place_bytes n place (length vs)) keys (same-place l n c.mems c.pages place (length vs))
    ∙ values-written keys vs l.memory (bytes-once l (begin_at l place) (length vs) h.1 laid machine apart)
    (bytes-own l (begin_at l place) (length vs) h.1 laid) (place-length l place (length vs))

pub device-reads : (a b c d e : LaneState) (place : Place) (vs bytes : List ℕ) (m flags ops : ℕ) (items : List Item)
    (segments : List Segment) → AreLaid a → IsInMachine a → IsApart a → IsStep (cpu_write place vs) a b answer.Done →
    IsStep (load_buffer m (Flat place (length vs)) flags items) b c (answer.Segments segments) →
    IsStep (sync m ops) c d answer.Done → prewrite ops ≡ true →
    IsStep (dev_read m 0 (length vs)) d e (answer.Bytes bytes) → bytes ≡ vs
device-reads a b c d e place vs bytes m flags ops items segments laid machine apart write loads syncs pre reads =
    let len : ℕ = length vs in
    let w = write-is a b place vs write in
    let x : LaneState = record a { memory = written (place_bytes a place len) vs a.memory } in
    let ab : KeepsContents x b = same-contents x b w.0 in
    let bc : KeepsContents b c = load-contents b c m flags (Flat place len) items segments loads in
    let cd : KeepsContents c d = sync-contents c d m ops syncs (prewrite-keeps ops pre) in
    let own : IsPaged (λ p. Unit {0}) (physical b) =
    subst (IsPaged (λ p. Unit {0})) (sym (physical-same a b ab.mems ab.pages)) (paged a laid machine) in
    let keys : List ℕ = place_bytes b place len in
    let mapped : mapped_bytes d m ≡ keys =
    sync-mapped c d m ops syncs m ∙ flat-mapped b c m len flags place items segments loads own in
    (dev_read-is d e m 0 len bytes reads).1
    ∙ same-values b d (then-keeps b c d bc cd) (load_bytes d.loans m 0 len) keys
    (whole-load d m len keys mapped (place-length b place len))
    ∙ write-kept a b place vs laid machine apart write

pub driver-reads : (a b c d e f : LaneState) (place : Place) (vs bytes : List ℕ) (m flags before after : ℕ)
    (items : List Item) (segments : List Segment) → AreLaid a → IsInMachine a → IsApart a →
    IsStep (load_buffer m (Flat place (length vs)) flags items) a b (answer.Segments segments) →
    IsStep (sync m before) b c answer.Done → IsStep (dev_write m 0 vs) c d answer.Done →
    IsStep (sync m after) d e answer.Done → postread after ≡ true →
    IsStep (cpu_read place (length vs)) e f (answer.Bytes bytes) → bytes ≡ vs
driver-reads a b c d e f place vs bytes m flags before after items segments laid machine apart loads first writes last
    post reads =
    let len : ℕ = length vs in
    let ab : KeepsContents a b = load-contents a b m flags (Flat place len) items segments loads in
    let keys : List ℕ = place_bytes a place len in
    let mapped : mapped_bytes c m ≡ keys =
    sync-mapped b c m before first m
    ∙ flat-mapped a b m len flags place items segments loads (paged a laid machine) in
    let lost = sync-forgets b c m before first in
    let x : LaneState = record c { memory = written (load_bytes c.loans m 0 len) vs c.memory } in
    let cd : KeepsContents x d = same-contents x d (dev_write-is c d m 0 vs writes) in
    let de : KeepsContents d e =
    sync-contents d e m after last (postread-keeps after post (sync-alone d e m after last)) in
    let pages : e.pages ≡ a.pages = de.pages ∙ (cd.pages ∙ (sync-pages b c m before first ∙ ab.pages)) in
    let mems : e.mems ≡ a.mems = de.mems ∙ (cd.mems ∙ (sync-mems b c m before first ∙ ab.mems)) in
    let r = read-is e f place len bytes reads in
    let reached : first_unreached a (begin_at a place) len ≡ Fine = sym (same-reached a e mems pages place len) ∙ r.2 in
    let memory : e.memory ≡ written keys vs c.memory =
    de.memory ∙ (cd.memory
    ∙ ap (λ ks. written ks vs c.memory) (whole-load c m len keys mapped (place-length a place len))) in
    let own : (k y : ℕ) → slice_get keys k ≡ Some y → is_some (c.memory y) ≡ true =
    λ k y at. (λ i. is_some (lost.1 i y)) ∙ own-forgotten lost.0 b.memory y ∙ (λ i. is_some (ab.memory i y))
    ∙ bytes-own a (begin_at a place) len reached laid k y at in
    r.1
    ∙ (λ i. map (λ y. value (memory i y)) (same-place a e mems pages place len i))
    ∙ values-written keys vs c.memory (bytes-once a (begin_at a place) len reached laid machine apart) own
    (place-length a place len)
