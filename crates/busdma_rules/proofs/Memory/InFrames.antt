-- The bytes of a list of frames keep pages: each page of these bytes is a frame.
use Rattle.std.proofs.Common.{◌≡◌, ℕ, zero, suc, ◌+◌, ◌*◌, ◌/◌, ◌%◌, ◌^◌, ◌<◌, List, [], ◌∷◌, refl, ap, sym, ◌∙◌, subst}
use Rattle.std.proofs.Common.{◌≢◌, arith}
use Rattle.std.specs.Prelude.{Contains, Option, Some, None, slice_get}
use Rattle.std.proofs.lemmas.List.Elements.{Contains-get_or}
use Rattle.std.proofs.lemmas.Option.{get_or_from_slice_get, slice_get_past, slice_get_within}
use Rattle.busdma_rules.proofs.Memory.Paged.{IsPaged, KeepsPlaces}
use Rattle.busdma_rules.specs.Memory.BioFrames.{AreFrames, byte_of, in_frames}

-- a frame of the list has a number below 2^30
low_frame : (fs : List ℕ) (k f : ℕ) → AreFrames fs → slice_get fs k ≡ Some f → f < 2 ^ 30
low_frame [] k f are h = absurd (not_there (sym (slice_get_past {X = ℕ} [] k (omega arith)) ∙ h))
  where
    not_there : ◌≡◌ {A = Option ℕ} None (Some f) → ⊥
    not_there e = cc
low_frame (g ∷ gs) zero f are h = let same : g ≡ f = cc in subst (λ n. n < 2 ^ 30) same are.0
low_frame (g ∷ gs) (suc k) f are h = low_frame gs k f are.1 h

pub frames_places : (fs : List ℕ) → KeepsPlaces (in_frames fs)
frames_places fs k p h = placed (slice_get fs (k / 4096)) h
  where
    placed : (o : Option ℕ) → byte_of o (k % 4096) ≡ Some p → p % 4096 ≡ k % 4096
    placed None e = absurd (cc)
    placed (Some f) e = let q : 4096 * f + k % 4096 ≡ p = cc in omega arith

next_of : (o : Option ℕ) (i p q : ℕ) → byte_of o i ≡ Some p → byte_of o (i + 1) ≡ Some q → q ≡ p + 1
next_of None i p q h k = absurd (cc)
next_of (Some f) i p q h k =
    let a : 4096 * f + i ≡ p = cc in
    let b : 4096 * f + (i + 1) ≡ q = cc in
    omega arith

frames_next : (fs : List ℕ) (k p q : ℕ) → in_frames fs k ≡ Some p →
    in_frames fs (k + 1) ≡ Some q → (k + 1) % 4096 ≢ 0 → q ≡ p + 1
frames_next fs k p q h e apart =
    let page : (k + 1) / 4096 ≡ k / 4096 = omega arith in
    let place : (k + 1) % 4096 ≡ k % 4096 + 1 = omega arith in
    next_of (slice_get fs (k / 4096)) (k % 4096) p q h (
    ap (byte_of (slice_get fs (k / 4096))) (sym place)
    ∙ ap (λ n. byte_of (slice_get fs n) ((k + 1) % 4096)) (sym page) ∙ e)

frames_low : (fs : List ℕ) (k p : ℕ) → AreFrames fs → in_frames fs k ≡ Some p → p < 2 ^ 42
frames_low fs k p are h = low (slice_get fs (k / 4096)) (λ f e. low_frame fs (k / 4096) f are e) h
  where
    low : (o : Option ℕ) → ((f : ℕ) → o ≡ Some f → f < 2 ^ 30) → byte_of o (k % 4096) ≡ Some p → p < 2 ^ 42
    low None small e = absurd (cc)
    low (Some f) small e =
        let q : 4096 * f + k % 4096 ≡ p = cc in
        let below : f < 2 ^ 30 = small f refl in
        omega arith

-- an address is in one of these frames
abbrev pub IsInOneOf : List ℕ → ℕ → Type 0
IsInOneOf fs pa = Contains fs (pa / 4096)

frames_have : (fs : List ℕ) (k p : ℕ) → in_frames fs k ≡ Some p → IsInOneOf fs p
frames_have fs k p h = there (slice_get fs (k / 4096)) refl h
  where
    there : (o : Option ℕ) → slice_get fs (k / 4096) ≡ o → byte_of o (k % 4096) ≡ Some p → IsInOneOf fs p
    there None at e = absurd (cc)
    there (Some f) at e =
        let q : 4096 * f + k % 4096 ≡ p = cc in
        let frame : f ≡ p / 4096 = omega arith in
        subst (Contains fs) (get_or_from_slice_get fs (k / 4096) f 0 at
        ∙ frame) (Contains-get_or fs (k / 4096) 0 (slice_get_within fs (k / 4096) f at))

pub frames_paged : (fs : List ℕ) → AreFrames fs → IsPaged (IsInOneOf fs) (in_frames fs)
frames_paged fs are = record {
  places = frames_places fs;
  next = frames_next fs;
  low = λ k p h. frames_low fs k p are h;
  has = frames_have fs;
}
