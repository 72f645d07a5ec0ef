-- The bytes of a place are the driver's own, and each has one place.
use Rattle.std.proofs.Common.{◌≡◌, ℕ, zero, suc, ◌+◌, true, length, Option, Some, None, slice_get, is_some, unwrap_or}
use Rattle.std.proofs.Common.{refl, ap, sym, ◌∙◌, arith}
use Rattle.std.proofs.lemmas.List.{length-map}
use Rattle.std.proofs.lemmas.Option.{slice_get-map}
use Rattle.std.specs.Option.{option_map}
use Rattle.busdma_machine.specs.Runs.{run_of}
use Rattle.busdma_machine.specs.declared.report.Judged.TheVariants.{Fine}
use Rattle.busdma_rules.specs.Memory.Translation.{missing, physical_or_0, unreached}
use Rattle.ideal_lane.specs.Places.{bytes_at, first_unreached, physical}
use Rattle.ideal_lane.specs.State.{LaneState}
use Rattle.ideal_wire.specs.Apart.{IsApart}
use Rattle.ideal_wire.specs.Laid.{AreLaid}
use Rattle.ideal_wire.specs.Machine.{IsInMachine}
use Rattle.ideal_wire.proofs.Apart.ReachedOnce.{reached-once}
use Rattle.ideal_wire.proofs.Faithful.PlacedLoads.{reaches}
use Rattle.ideal_wire.proofs.Faithful.Twins.{HasNoTwins}
use Rattle.ideal_wire.proofs.Laid.Positions.{fine_at, found_one}

-- ---- runs

run-length : (a n : ℕ) → length (run_of a n) ≡ n
run-length a zero = refl
run-length a (suc n) = omega (arith, run-length (a + 1) n)

run-at : (a n k x : ℕ) → slice_get (run_of a n) k ≡ Some x → x ≡ a + k
run-at a zero k x e = absurd (cc)
run-at a (suc n) zero x e = let same : a ≡ x = found_one (Some a) a x refl e in omega (arith, same)
run-at a (suc n) (suc k) x e = let same : x ≡ a + 1 + k = run-at (a + 1) n k x e in omega (arith, same)

run-once : (a n : ℕ) → HasNoTwins (run_of a n)
run-once a n i j x e f =
    let one : x ≡ a + i = run-at a n i x e in
    let other : x ≡ a + j = run-at a n j x f in
    omega (arith, one, other)

-- ---- bytes of a place

pub bytes-length : (l : LaneState) (va len : ℕ) → length (bytes_at l (run_of va len)) ≡ len
bytes-length l va len = length-map (run_of va len) (physical_or_0 (physical l)) ∙ run-length va len

not-missing : (o : Option ℕ) → missing o ≡ None → o ≡ Some (unwrap_or o 0)
not-missing None h = absurd (cc)
not-missing (Some pa) h = refl

module _ (l : LaneState) (va len : ℕ) (fine : first_unreached l va len ≡ Fine) where
  byte-at : (k a : ℕ) → slice_get (bytes_at l (run_of va len)) k ≡ Some a →
      (v : ℕ) × (slice_get (run_of va len) k ≡ Some v) × (physical l v ≡ Some a)
  byte-at k a e =
      by (slice_get (run_of va len) k) refl (sym (slice_get-map (physical_or_0 (physical l)) (run_of va len) k) ∙ e)
    where
      by : (o : Option ℕ) → slice_get (run_of va len) k ≡ o →
          option_map (physical_or_0 (physical l)) o ≡ Some a →
          (v : ℕ) × (slice_get (run_of va len) k ≡ Some v) × (physical l v ≡ Some a)
      by None f g = absurd (cc)
      by (Some v) f g =
          let there = not-missing (physical l v) (fine_at (unreached (physical l)) 0 (run_of va len) fine k v f) in
          (v, f, there ∙ ap (λ x. Some x) (found_one (Some (physical_or_0 (physical l) v)) _ a refl g))

  pub bytes-own : AreLaid l → (k a : ℕ) → slice_get (bytes_at l (run_of va len)) k ≡ Some a →
      is_some (l.memory a) ≡ true
  bytes-own laid k a e = let x = byte-at k a e in laid.owned a (reaches l laid x.0 a x.2)

  pub bytes-once : AreLaid l → IsInMachine l → IsApart l → HasNoTwins (bytes_at l (run_of va len))
  bytes-once laid machine apart i j a e f =
      let x = byte-at i a e in
      let y = byte-at j a f in
      let same : y.0 ≡ x.0 = reached-once l laid apart machine y.0 x.0 a y.2 x.2 in
      run-once va len i j x.0 x.1 (y.1 ∙ ap (λ v. Some v) same)
