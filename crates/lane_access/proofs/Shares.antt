-- The shares of zones after one more copy is counted.
use Rattle.std.proofs.Common.{◌≡◌, ◌≢◌, ℕ, suc, ◌+◌, ◌<◌, ◌≤◌, ◌==◌, Bool, true, false, cond, min}
use Rattle.std.proofs.Common.{List, [], ◌∷◌, ◌++◌, get_or, length, set, refl, sym, ap, ◌∙◌, arith}
use Rattle.std.proofs.lemmas.Bool.{eq-eqb}
use Rattle.std.proofs.lemmas.Option.{get_or_from_slice_get, slice_get-get_or}
use Rattle.std.proofs.lemmas.Map.Views.{exact_unsigned_eq}
use Rattle.busdma_machine.specs.declared.name.ZoneId.{ZoneId}
use Rattle.ideal_lane.specs.Syncs.{counted_in, greatest_share}
use Rattle.lane_state.specs.declared.kept.KeptShare.{KeptShare}
use Rattle.lane_state.specs.Kept.{kept_share}
use Rattle.lane_access.specs.Shares.{share_place}

-- a share with one more copy, up to the greatest number
abbrev pub raised : KeptShare → KeptShare
raised s = record s { count = min (s.count + 1) greatest_share }

one-raised : (z zone count : ℕ) (rest : ℕ → ℕ) (y : ℕ) → z ≡ zone →
    cond (y == zone) (min (count + 1) greatest_share) (rest y)
    ≡ cond (y == z) (min (cond (y == zone) count (rest y) + 1) greatest_share) (cond (y == zone) count (rest y))
one-raised z zone count rest y e =
    ap (λ q. cond (y == zone) (min (count + 1) greatest_share) (rest y)) e ∙ by (y == zone)
    ∙ ap (λ q. cond (y == q) (min (cond (y == zone) count (rest y) + 1) greatest_share)
    (cond (y == zone) count (rest y)))
    (sym e)
  where
    by : (b : Bool) → cond b (min (count + 1) greatest_share) (rest y)
        ≡ cond b (min (cond b count (rest y) + 1) greatest_share) (cond b count (rest y))
    by true = refl
    by false = refl

-- another share before it
one-before : (z zone count : ℕ) (rest : ℕ → ℕ) (y : ℕ) → z ≢ zone →
    cond (y == zone) count (cond (y == z) (min (rest y + 1) greatest_share) (rest y))
    ≡ cond (y == z) (min (cond (y == zone) count (rest y) + 1) greatest_share) (cond (y == zone) count (rest y))
one-before z zone count rest y ne = by (y == zone) (y == z) refl refl
  where
    by : (a b : Bool) → (y == zone) ≡ a → (y == z) ≡ b →
        cond a count (cond b (min (rest y + 1) greatest_share) (rest y))
        ≡ cond b (min (cond a count (rest y) + 1) greatest_share) (cond a count (rest y))
    by true true e f = absurd (ne (sym (exact_unsigned_eq y z f) ∙ exact_unsigned_eq y zone e))
    by true false e f = refl
    by false b e f = refl

pub share-raised : (shares : List KeptShare) (z : ℕ) (d : KeptShare) → share_place z shares < length shares →
    kept_share (set shares (share_place z shares) (raised (get_or shares (share_place z shares) d)))
    ≡ counted_in z (kept_share shares)
share-raised [] z d inside = absurd (omega arith)
share-raised (s ∷ shares) z d inside = by (z == s.zone.0) refl inside (share-raised shares z d)
  where
    by : (b : Bool) → (z == s.zone.0) ≡ b → cond b 0 (suc (share_place z shares)) < suc (length shares) →
        (share_place z shares < length shares →
        kept_share (set shares (share_place z shares) (raised (get_or shares (share_place z shares) d)))
        ≡ counted_in z (kept_share shares)) →
        kept_share (set (s ∷ shares) (cond b 0 (suc (share_place z shares)))
        (raised (get_or (s ∷ shares) (cond b 0 (suc (share_place z shares))) d)))
        ≡ counted_in z (kept_share (s ∷ shares))
    by true e within rest =
        λ i y. (one-raised z s.zone.0 s.count (kept_share shares) y (exact_unsigned_eq z s.zone.0 e)) i
    by false e within rest =
        let before = rest (omega (arith, within)) in
        λ i y. (ap (λ f. cond (y == s.zone.0) s.count (f y)) before
        ∙ one-before z s.zone.0 s.count (kept_share shares) y
        (λ q. Rattle.std.proofs.lemmas.Bool.false≢true (sym e ∙ eq-eqb z s.zone.0 q))) i

pub share-new : (shares : List KeptShare) (z : ZoneId) → length shares ≤ share_place z.0 shares →
    kept_share (shares ++ record { zone = z; count = 1 } ∷ []) ≡ counted_in z.0 (kept_share shares)
share-new [] z past = λ i y. (by (y == z.0)) i
  where
    by : (b : Bool) → cond b 1 0 ≡ cond b (min (0 + 1) greatest_share) 0
    by true = omega arith
    by false = refl
share-new (s ∷ shares) z past = by (z.0 == s.zone.0) refl past (share-new shares z)
  where
    by : (b : Bool) → (z.0 == s.zone.0) ≡ b → suc (length shares) ≤ cond b 0 (suc (share_place z.0 shares)) →
        (length shares ≤ share_place z.0 shares →
        kept_share (shares ++ record { zone = z; count = 1 } ∷ []) ≡ counted_in z.0 (kept_share shares)) →
        kept_share (s ∷ shares ++ record { zone = z; count = 1 } ∷ []) ≡ counted_in z.0 (kept_share (s ∷ shares))
    by true e within rest = absurd (omega (arith, within))
    by false e within rest =
        let before = rest (omega (arith, within)) in
        λ i y. (ap (λ f. cond (y == s.zone.0) s.count (f y)) before
        ∙ one-before z.0 s.zone.0 s.count (kept_share shares) y
        (λ q. Rattle.std.proofs.lemmas.Bool.false≢true (sym e ∙ eq-eqb z.0 s.zone.0 q))) i

-- the share at the place of its zone has one more
pub share-counted : (shares : List KeptShare) (z place n : ℕ) (x y : KeptShare) → place ≡ share_place z shares →
    place < length shares → x ≡ get_or shares place x → y ≡ get_or shares place y →
    n ≡ min (x.count + 1) greatest_share →
    kept_share (set shares place (record { zone = y.zone; count = n })) ≡ counted_in z (kept_share shares)
share-counted shares z place n x y at inside first second more =
    let same : y ≡ x = second
    ∙ get_or_from_slice_get shares place (get_or shares place x) y (slice_get-get_or shares place x inside) ∙ sym
    first in
    let is : record { zone = y.zone; count = n } ≡ raised (get_or shares place x) =
    (λ i. record { zone = (same i).zone; count = more i }) ∙ ap raised first in
    let within : share_place z shares < length shares = omega (arith, at, inside) in
    (λ i. kept_share (set shares (at i) (is i)))
    ∙ ap (λ q. kept_share (set shares (share_place z shares) (raised (get_or shares q x)))) at
    ∙ share-raised shares z x within
