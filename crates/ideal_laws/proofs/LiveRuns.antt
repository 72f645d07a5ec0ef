-- What is live once a run of an address space is put or gone.
use Rattle.std.proofs.Common.{◌≡◌, ◌≢◌, ◌⊎◌, inl, inr, ℕ, zero, suc, ◌==◌, not, Bool, true, false, cond}
use Rattle.std.proofs.Common.{if◌then◌else◌, List, [], ◌∷◌, refl, sym, ap, ◌∙◌}
use Rattle.std.proofs.Common.{subst, arith, nat_lt}
use Rattle.std.proofs.lemmas.Bool.{eq-eqb, false≢true}
use Rattle.std.specs.List.{Contains, filter}
use Rattle.busdma_rules.specs.Iommu.Space.{DeviceRun, begins_at, put_run}

pub in-cases : {X : Type 0} (y x : X) (xs : List X) → Contains (y ∷ xs) x → (y ≡ x) ⊎ Contains xs x
in-cases y x xs (zero, l, e) = inl e
in-cases y x xs (suc k, l, e) = inr (k, omega (arith, l), e)

pub in-none : {X : Type 0} (x : X) → Contains [] x → ⊥
in-none x (k, l, e) = omega (arith, l)

pub tail-in : {X : Type 0} (y x : X) (xs : List X) → Contains xs x → Contains (y ∷ xs) x
tail-in y x xs h = (suc h.0, omega (arith, h.1), h.2)

pub head-in : {X : Type 0} (x : X) (xs : List X) → Contains (x ∷ xs) x
head-in x xs = (0, omega arith, refl)

-- what is live once a run is put is that run, or was live before
pub put-cases : (q r : DeviceRun) (rs : List DeviceRun) → Contains (put_run q rs) r → (q ≡ r) ⊎ Contains rs r
put-cases q r [] h = in-cases q r [] h
put-cases q r (x ∷ rs) h = by (nat_lt q.first x.first) (put-cases q r rs) h
  where
    further : (Contains (put_run q rs) r → (q ≡ r) ⊎ Contains rs r) → (x ≡ r) ⊎ Contains (put_run q rs) r →
        (q ≡ r) ⊎ Contains (x ∷ rs) r
    further rest (inl e) = inr (subst (Contains (x ∷ rs)) e (head-in x rs))
    further rest (inr k) = elim (rest k) as (λ _. (q ≡ r) ⊎ Contains (x ∷ rs) r) [
      | inl e ↦ inl e
      | inr j ↦ inr (tail-in x r rs j)
    ]

    by : (b : Bool) → (Contains (put_run q rs) r → (q ≡ r) ⊎ Contains rs r) →
        Contains (if b then q ∷ x ∷ rs else x ∷ put_run q rs) r → (q ≡ r) ⊎ Contains (x ∷ rs) r
    by true rest h = in-cases q r (x ∷ rs) h
    by false rest h = further rest (in-cases x r (put_run q rs) h)

-- what is live once the run that begins at a page is gone was live before, and begins elsewhere
abbrev pub IsOther : ℕ → List DeviceRun → DeviceRun → Type 0
IsOther first rs r = Contains rs r × (r.first ≢ first)

pub left-cases : (first : ℕ) (r : DeviceRun) (rs : List DeviceRun) → Contains (filter (λ x. not (begins_at first x)) rs)
    r →
    IsOther first rs r
left-cases first r [] h = absurd (in-none r h)
left-cases first r (q ∷ qs) h = by (q.first == first) refl (left-cases first r qs) h
  where
    more : IsOther first qs r → IsOther first (q ∷ qs) r
    more rest = (tail-in q r qs rest.0, rest.1)

    by : (b : Bool) → (q.first == first) ≡ b →
        (Contains (filter (λ x. not (begins_at first x)) qs) r → IsOther first qs r) → Contains (cond (not b)
        (q ∷ filter (λ x. not (begins_at first x)) qs) (filter (λ x. not (begins_at first x)) qs)) r →
        IsOther first (q ∷ qs) r
    by true e rest h = more (rest h)
    by false e rest h = elim (in-cases q r (filter (λ x. not (begins_at first x)) qs) h)
        as (λ _. IsOther first (q ∷ qs) r) [
          | inl same ↦ (
            subst (Contains (q ∷ qs)) same (head-in q qs),
            λ at. false≢true (sym e ∙ ap (λ (x : DeviceRun). x.first == first) same ∙ eq-eqb r.first first at),
          )
          | inr k ↦ more (rest k)
        ]
