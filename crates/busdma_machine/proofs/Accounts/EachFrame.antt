-- What holds of each frame of an account still holds of each frame after a sound history.
use Rattle.std.proofs.Common.{◌≡◌, ℕ, ◌*◌, ◌%◌, ◌^◌, ◌<◌, Bool, true, false, cond, not, ◌&&◌, List, [], ◌∷◌, refl, ◌∙◌}
use Rattle.std.proofs.Common.{subst, sym, arith, eqb, nat_lt, All}
use Rattle.std.specs.List.{count_by, sum_by}
use Rattle.std.proofs.lemmas.Bool.{ltb-true, lt-ltb, eqb-true, eq-eqb}
use Rattle.std.proofs.lemmas.List.Sums.{sum_by-cons}
use Rattle.std.proofs.lemmas.List.Elements.{All-nil, All-cons, All-head, All-tail, All-weaker}
use Rattle.busdma_machine.specs.declared.bounce.hold.HoldEntry.{HoldEntry}
use Rattle.busdma_machine.specs.Bounce.Account.{Account, Zone, Held, Memory}
use Rattle.busdma_machine.specs.Bounce.EachFrame.{EachFrame, LiesBelowMaxmem}
use Rattle.busdma_machine.specs.Bounce.History.{IsFrame, IsOpening, IsSound, account_of}
use Rattle.busdma_machine.specs.Bounce.Places.{frames_where}
use Rattle.busdma_machine.specs.Bounce.WellFormed.{IsAccountWellFormed}
use Rattle.busdma_machine.proofs.Accounts.Names.{and_left, and_right}
use Rattle.busdma_machine.proofs.Accounts.Places.{where-history}
use Rattle.busdma_machine.proofs.Accounts.ShareLaws.{maxmem-history}
use Rattle.busdma_machine.proofs.Accounts.WellFormed.{well-opening}

abbrev weight : Bool → ℕ
weight b = cond b 1 0

-- a sum is 0 exactly if each term is 0
module _ {X : Type 0} (f : X → ℕ) where
  all_none : (xs : List X) → sum_by f xs ≡ 0 → All (λ x. f x ≡ 0) xs
  all_none [] e = All-nil (λ x. f x ≡ 0)
  all_none (x ∷ xs) e =
      All-cons (λ x. f x ≡ 0) x xs (omega (arith, e, sum_by-cons f x xs))
      (all_none xs (omega (arith, e, sum_by-cons f x xs)))

  none_all : (xs : List X) → All (λ x. f x ≡ 0) xs → sum_by f xs ≡ 0
  none_all [] all = refl
  none_all (x ∷ xs) all =
      omega (
        arith,
        sum_by-cons f x xs,
        All-head (λ x. f x ≡ 0) x xs all,
        none_all xs (All-tail (λ x. f x ≡ 0) x xs all),
      )

-- a fact that a test decides
module _ (P : ℕ → Type 0) (test : ℕ → Bool) (passes : (f : ℕ) → P f →
    test f ≡ true) (tells : (f : ℕ) → test f ≡ true → P f) where
  abbrev fails : ℕ → Bool
  fails f = not (test f)

  fails_not : (f : ℕ) → P f → weight (fails f) ≡ 0
  fails_not f holds = rw (passes f holds) refl

  holds_of : (f : ℕ) → weight (fails f) ≡ 0 → P f
  holds_of f none =
      tells f
      ((elim (test f) as (λ v. weight (not v) ≡ 0 →
      v ≡ true) [ true ↦ λ e. refl | false ↦ λ e. absurd (omega (arith, e)) ]) none)

  frames_none : (fs : List ℕ) → All P fs → count_by fails fs ≡ 0
  frames_none fs all = none_all (λ f. weight (fails f)) fs (All-weaker P (λ f. weight (fails f) ≡ 0) fails_not fs all)

  frames_all : (fs : List ℕ) → count_by fails fs ≡ 0 → All P fs
  frames_all fs none = All-weaker (λ f. weight (fails f) ≡ 0) P holds_of fs (all_none (λ f. weight (fails f)) fs none)

  each_none : (a : Account) → EachFrame P a → frames_where fails a ≡ 0
  each_none a each = omega (
    arith,
    frames_none a.bank each.bank,
    none_all (λ (z : Zone). count_by fails z.avail) a.zones
        (All-weaker (λ (z : Zone). All P z.avail) (λ z. count_by fails z.avail ≡ 0)
        (λ z all. frames_none z.avail all) a.zones each.listed),
    none_all (λ (h : Held). weight (fails h.page)) a.held
        (All-weaker (λ (h : Held). P h.page) (λ h. weight (fails h.page) ≡ 0)
        (λ h holds. fails_not h.page holds) a.held each.held),
    none_all (λ (m : Memory). count_by fails m.frames) a.mems
        (All-weaker (λ (m : Memory). All P m.frames) (λ m. count_by fails m.frames ≡ 0)
        (λ m all. frames_none m.frames all) a.mems each.mems),
  )

  none_each : (a : Account) → frames_where fails a ≡ 0 → EachFrame P a
  none_each a none = record {
    bank = frames_all a.bank (omega (arith, none));
    listed = All-weaker (λ (z : Zone). count_by fails z.avail ≡ 0) (λ z. All P z.avail) (λ z e. frames_all z.avail e)
        a.zones (all_none (λ (z : Zone). count_by fails z.avail) a.zones (omega (arith, none)));
    held = All-weaker (λ (h : Held). weight (fails h.page) ≡ 0) (λ h. P h.page) (λ h e. holds_of h.page e) a.held
        (all_none (λ (h : Held). weight (fails h.page)) a.held (omega (arith, none)));
    mems =
        All-weaker (λ (m : Memory). count_by fails m.frames ≡ 0) (λ m. All P m.frames) (λ m e. frames_all m.frames e)
        a.mems (all_none (λ (m : Memory). count_by fails m.frames) a.mems (omega (arith, none)));
  }

  pub each-history : (a : Account) (es : List HoldEntry) → IsAccountWellFormed a → IsSound a es →
      EachFrame P a → EachFrame P (account_of a es)
  each-history a es well sound each =
      none_each (account_of a es) (where-history fails a es well sound ∙ each_none a each)

-- an account that has only free frames
pub each-opening : (P : ℕ → Type 0) (a : Account) → IsOpening a → All P a.bank → EachFrame P a
each-opening P a opens all = record {
  bank = all;
  listed = rw opens.zones (All-nil (λ (z : Zone). All P z.avail));
  held = rw opens.held (All-nil (λ (h : Held). P h.page));
  mems = rw opens.mems (All-nil (λ (m : Memory). All P m.frames));
}

abbrev is_frame : ℕ → Bool
is_frame f = eqb (f % 4096) 0 && nat_lt f (2 ^ 42)

pub whole-history : (a : Account) (es : List HoldEntry) → IsOpening a →
    IsSound a es → EachFrame IsFrame (account_of a es)
whole-history a es opens sound =
    each-history IsFrame is_frame
    (λ f frame. rw (eq-eqb (f % 4096) 0 frame.whole, lt-ltb f (2 ^ 42) frame.numbered) refl)
    (λ f e. record {
      whole = eqb-true (f % 4096) 0 (and_left (eqb (f % 4096) 0) _ e);
      numbered = ltb-true f (2 ^ 42) (and_right (eqb (f % 4096) 0) _ e);
    })
    a es (well-opening a opens) sound (each-opening IsFrame a opens opens.frames)

pub below-history : (a : Account) (es : List HoldEntry) → IsAccountWellFormed a → IsSound a es →
    LiesBelowMaxmem a → LiesBelowMaxmem (account_of a es)
below-history a es well sound below =
    subst (λ n. EachFrame (λ f. f < 4096 * n) (account_of a es)) (sym (maxmem-history a es))
    (each-history (λ f. f < 4096 * a.maxmem) (λ f. nat_lt f (4096 * a.maxmem))
    (λ f low. lt-ltb f (4096 * a.maxmem) low) (λ f e. ltb-true f (4096 * a.maxmem) e) a es well sound below)
