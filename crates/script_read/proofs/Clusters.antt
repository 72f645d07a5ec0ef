-- Clusters that are judged one after another take the bytes of their chain: no virtual byte is in two of
-- them, or in one and in the chain.
use Rattle.std.proofs.Common.{◌≡◌, ℕ, zero, suc, ◌+◌, ◌-◌, ◌*◌, ◌%◌, ◌<◌, ◌≤◌, ◌==◌, ◌||◌, Bool, true, false, List, []}
use Rattle.std.proofs.Common.{◌∷◌, ◌++◌, length, refl, arith, append-nil, append_assoc, min, max, if◌then◌else◌}
use Rattle.std.specs.Prelude.{Some, None, IfSome, nat_lt}
use Rattle.std.specs.List.{AllByRecursion, list_any}
use Rattle.std.proofs.lemmas.Bool.{eqb-false, eqb-true, false_from_ne_true, ltb-false}
use Rattle.busdma_machine.specs.declared.machine.address.Span.{Span}
use Rattle.busdma_machine.specs.declared.machine.address.Va.{Va}
use Rattle.busdma_machine.specs.Each.{EachAfter}
use Rattle.busdma_machine.specs.Machine.Spans.{span_addresses, span_bytes}
use Rattle.busdma_machine.specs.Runs.{run_of}
use Rattle.busdma_base.specs.Scenarios.Buffers.{AreClustersFor, IsCluster, IsNoneOf}
use Rattle.busdma_base.specs.Scenarios.Limits.{entries_limit}
use Rattle.busdma_rules.specs.Memory.Clusters.{front_of, plan}
use Rattle.mbuf_defrag.proofs.Fronts.{front_bytes}
use Rattle.script_read.specs.Sends.{IsClusterOf}
use Rattle.scenario_format.specs.Scripts.Sends.{is_cluster, shares}

-- ---- lists

all_append : {A : Type 0} (P : A → Type 0) (xs ys : List A) → AllByRecursion P xs → AllByRecursion P ys →
    AllByRecursion P (xs ++ ys)
all_append P [] ys h k = k
all_append P (x ∷ xs) ys h k = (h.0, all_append P xs ys h.1 k)

all_weaker : {A : Type 0} (P Q : A → Type 0) → ((x : A) → P x → Q x) → (xs : List A) → AllByRecursion P xs →
    AllByRecursion Q xs
all_weaker P Q f [] h = tt
all_weaker P Q f (x ∷ xs) h = (f x h.0, all_weaker P Q f xs h.1)

each_append : {A : Type 0} (P : List A → A → Type 0) (before xs ys : List A) → EachAfter P before xs →
    EachAfter P (before ++ xs) ys → EachAfter P before (xs ++ ys)
each_append P before [] ys h k = rw append-nil at k
each_append P before (x ∷ xs) ys h k = (h.0, each_append P (before ++ x ∷ []) xs ys h.1 (rw append_assoc k))

left_false : (a b : Bool) → (a || b) ≡ false → a ≡ false
left_false true b e = cc
left_false false b e = refl

right_false : (a b : Bool) → (a || b) ≡ false → b ≡ false
right_false true b e = cc
right_false false b e = e

-- ---- addresses that are in no cluster

-- an address is outside a cluster, or before its i-th byte
abbrev pub IsOff : ℕ → ℕ → ℕ → Type 0
IsOff c i b = c + i ≤ b → c + 4096 ≤ b

none_at : (c i : ℕ) → i < 4096 → (before : List ℕ) → AllByRecursion (IsOff c i) before → IsNoneOf before (c + i)
none_at c i low [] h = refl
none_at c i low (b ∷ bs) h =
    let other : (c + i == b) ≡ false =
    false_from_ne_true _ (λ e. let is : c + i ≡ b = eqb-true (c + i) b e in
    let high : c + 4096 ≤ b = h.0 (omega (arith, is)) in absurd (omega (arith, is, high, low))) in
    rw (other, none_at c i low bs h.1) refl

next_off : (c i b : ℕ) → IsOff c i b → IsOff c (i + 1) b
next_off c i b h k = h (omega (arith, k))

-- the bytes of a cluster from its i-th on differ from each other, and from addresses that are outside it
run_unlike : (c i n : ℕ) (before : List ℕ) → i + n ≤ 4096 → AllByRecursion (IsOff c i) before →
    EachAfter IsNoneOf before (run_of (c + i) n)
run_unlike c i zero before low h = tt
run_unlike c i (suc n) before low h =
    let next : c + i + 1 ≡ c + (i + 1) = omega arith in
    let here : IsOff c (i + 1) (c + i) = λ k. absurd (omega (arith, k)) in (
      none_at c i (omega (arith, low)) before h,
      rw next (run_unlike c (i + 1) n (before ++ (c + i) ∷ []) (omega (arith, low))
          (all_append (IsOff c (i + 1)) before ((c + i) ∷ [])
          (all_weaker (IsOff c i) (IsOff c (i + 1)) (next_off c i) before h)
          (here, tt))),
    )

-- two clusters that differ have no byte in common
other_off : (c d b : ℕ) → c % 4096 ≡ 0 → d % 4096 ≡ 0 → (c ≡ d → ⊥) → c ≤ b → b < c + 4096 → IsOff d 0 b
other_off c d b hc hd differ low high k = grind (arith, hc, hd)

run_off : (c d i n : ℕ) → c % 4096 ≡ 0 → d % 4096 ≡ 0 → (c ≡ d → ⊥) → i + n ≤ 4096 →
    AllByRecursion (IsOff d 0) (run_of (c + i) n)
run_off c d i zero hc hd differ low = tt
run_off c d i (suc n) hc hd differ low =
    let next : c + i + 1 ≡ c + (i + 1) = omega arith in (
      other_off c d (c + i) hc hd differ (omega arith) (omega (arith, low)),
      rw next (run_off c d (i + 1) n hc hd differ (omega (arith, low))),
    )

-- ---- clusters one after another

abbrev IsWhole : Va → Type 0
IsWhole c = c.0 % 4096 ≡ 0

abbrev Differs : Va → Va → Type 0
Differs c d = c.0 ≡ d.0 → ⊥

-- each begins a virtual page, and differs from those after it
abbrev Differ : List Va → Type 0
Differ [] = Unit {0}
Differ (c ∷ cs) = IsWhole c × (AllByRecursion (Differs c) cs × Differ cs)

later_differ : (chain : List Span) (before between cs : List Va) (c : Va) →
    EachAfter (IsClusterOf chain) (before ++ c ∷ between) cs → AllByRecursion (Differs c) cs
later_differ chain before between [] c h = tt
later_differ chain before between (d ∷ ds) c h = (
  behind before h.0.fresh,
  later_differ chain before (between ++ d ∷ []) ds c (rw append_assoc at h.1),
)
  where
    among : (xs : List Va) → list_any (is_cluster d.0) (c ∷ xs) ≡ false → Differs c d
    among xs e = eqb-false c.0 d.0 (left_false (c.0 == d.0) _ e)

    behind : (bs : List Va) → list_any (is_cluster d.0) (bs ++ c ∷ between) ≡ false → Differs c d
    behind [] e = among between e
    behind (b ∷ bs) e = behind bs (right_false (b.0 == d.0) _ e)

all_differ : (chain : List Span) (before cs : List Va) → EachAfter (IsClusterOf chain) before cs → Differ cs
all_differ chain before [] h = tt
all_differ chain before (c ∷ cs) h =
    (h.0.whole, (later_differ chain before [] cs c h.1, all_differ chain (before ++ c ∷ []) cs h.1))

all_apart : (chain : List Span) (before cs : List Va) → EachAfter (IsClusterOf chain) before cs →
    AllByRecursion (λ c. list_any (shares c.0) chain ≡ false) cs
all_apart chain before [] h = tt
all_apart chain before (c ∷ cs) h = (h.0.apart, all_apart chain (before ++ c ∷ []) cs h.1)

-- ---- the front of clusters

front_each : (n : ℕ) (cs : List Va) → Differ cs → AllByRecursion IsCluster (front_of n cs)
front_each n [] h = tt
front_each n (c ∷ cs) h = by (n == 0) (front_each (n - 4096) cs h.1.1)
  where
    by : (b : Bool) → AllByRecursion IsCluster (front_of (n - 4096) cs) → AllByRecursion IsCluster
        (if b then [] else record { va = c; len = min n 4096 } ∷ front_of (n - 4096) cs)
    by true more = tt
    by false more = (record { whole = h.0; short = omega arith }, more)

front_short : (n : ℕ) (cs : List Va) → length (front_of n cs) ≤ length cs
front_short n [] = omega arith
front_short n (c ∷ cs) = by (n == 0) (front_short (n - 4096) cs)
  where
    by : (b : Bool) → length (front_of (n - 4096) cs) ≤ length cs →
        length (if b then [] else record { va = c; len = min n 4096 } ∷ front_of (n - 4096) cs)
        ≤ length (c ∷ cs)
    by true more = omega arith
    by false more = omega (arith, more)

-- addresses are outside these clusters
abbrev AreOff : List ℕ → List Va → Type 0
AreOff before cs = AllByRecursion (λ (c : Va). AllByRecursion (IsOff c.0 0) before) cs

more_off : (before : List ℕ) (c : Va) (n : ℕ) → n ≤ 4096 → IsWhole c → (ds : List Va) → Differ ds →
    AllByRecursion (Differs c) ds → AreOff before ds → AreOff (before ++ run_of c.0 n) ds
more_off before c n low whole [] differ apart h = tt
more_off before c n low whole (d ∷ ds) differ apart h =
    let from : c.0 + 0 ≡ c.0 = omega arith in (
      all_append (IsOff d.0 0) before (run_of c.0 n) h.0
          (rw from at (run_off c.0 d.0 0 n whole differ.0 apart.0 (omega (arith, low)))),
      more_off before c n low whole ds differ.1.1 apart.1 h.1,
    )

front_unlike : (n : ℕ) (cs : List Va) (before : List ℕ) → Differ cs → AreOff before cs →
    EachAfter IsNoneOf before (span_addresses (front_of n cs))
front_unlike n [] before differ off = tt
front_unlike n (c ∷ cs) before differ off =
    let low : min n 4096 ≤ 4096 = omega arith in
    let from : c.0 + 0 ≡ c.0 = omega arith in
    by (n == 0) (each_append IsNoneOf before (run_of c.0 (min n 4096)) (span_addresses (front_of (n - 4096) cs))
    (rw from at (run_unlike c.0 0 (min n 4096) before (omega (arith, low)) off.0))
    (front_unlike (n - 4096) cs (before ++ run_of c.0 (min n 4096)) differ.1.1
    (more_off before c (min n 4096) low differ.0 cs differ.1.1 differ.1.0 off.1)))
  where
    by : (b : Bool) → EachAfter IsNoneOf before (run_of c.0 (min n 4096) ++ span_addresses (front_of (n - 4096) cs)) →
        EachAfter IsNoneOf before
        (span_addresses (if b then [] else record { va = c; len = min n 4096 } ∷ front_of (n - 4096) cs))
    by true some = tt
    by false some = some

-- ---- the chain

-- an address that is in no cluster is in no front of a cluster
none_in_run : (a c i n : ℕ) → i + n ≤ 4096 → IsOff c 0 a → list_any (λ b. a == b) (run_of (c + i) n) ≡ false
none_in_run a c i zero low off = refl
none_in_run a c i (suc n) low off =
    let next : c + i + 1 ≡ c + (i + 1) = omega arith in
    let other : (a == c + i) ≡ false =
    false_from_ne_true _ (λ e. let is : a ≡ c + i = eqb-true a (c + i) e in
    let high : c + 4096 ≤ a = off (omega (arith, is)) in absurd (omega (arith, is, high, low))) in
    rw (other, next, none_in_run a c (i + 1) n (omega (arith, low)) off) refl

none_among : (a : ℕ) (xs ys : List ℕ) → IsNoneOf xs a → IsNoneOf ys a → IsNoneOf (xs ++ ys) a
none_among a [] ys h k = k
none_among a (x ∷ xs) ys h k =
    rw (left_false (a == x) _ h, none_among a xs ys (right_false (a == x) _ h) k) refl

front_none : (a n : ℕ) (cs : List Va) → AllByRecursion (λ (c : Va). IsOff c.0 0 a) cs →
    IsNoneOf (span_addresses (front_of n cs)) a
front_none a n [] h = refl
front_none a n (c ∷ cs) h =
    let low : min n 4096 ≤ 4096 = omega arith in
    let from : c.0 + 0 ≡ c.0 = omega arith in
    by (n == 0) (none_among a (run_of c.0 (min n 4096)) (span_addresses (front_of (n - 4096) cs))
    (rw from at (none_in_run a c.0 0 (min n 4096) (omega (arith, low)) h.0)) (front_none a (n - 4096) cs h.1))
  where
    by : (b : Bool) → IsNoneOf (run_of c.0 (min n 4096) ++ span_addresses (front_of (n - 4096) cs)) a → IsNoneOf
        (span_addresses (if b then [] else record { va = c; len = min n 4096 } ∷ front_of (n - 4096) cs)) a
    by true some = refl
    by false some = some

-- a byte of a span that shares none with a cluster is outside the cluster
apart_off : (c : ℕ) (s : Span) (a : ℕ) → shares c s ≡ false → s.va.0 ≤ a → a < s.va.0 + s.len → IsOff c 0 a
apart_off c s a e low high k =
    let none : min (c + 4096) (s.va.0 + s.len) ≤ max c s.va.0 = ltb-false _ _ e in omega (arith, none, low, high, k)

run_none : (n : ℕ) (cs : List Va) (s : Span) → AllByRecursion (λ (c : Va). shares c.0 s ≡ false) cs →
    (i k : ℕ) → i + k ≤ s.len → AllByRecursion (IsNoneOf (span_addresses (front_of n cs))) (run_of (s.va.0 + i) k)
run_none n cs s apart i zero low = tt
run_none n cs s apart i (suc k) low =
    let next : s.va.0 + i + 1 ≡ s.va.0 + (i + 1) = omega arith in (
      front_none (s.va.0 + i) n cs (all_weaker (λ (c : Va). shares c.0 s ≡ false) (λ (c : Va). IsOff c.0 0 (s.va.0 + i))
          (λ c e. apart_off c.0 s (s.va.0 + i) e (omega arith) (omega (arith, low))) cs apart),
      rw next (run_none n cs s apart (i + 1) k (omega (arith, low))),
    )

chain_none : (n : ℕ) (cs : List Va) (chain : List Span) →
    AllByRecursion (λ (c : Va). list_any (shares c.0) chain ≡ false) cs →
    AllByRecursion (IsNoneOf (span_addresses (front_of n cs))) (span_addresses chain)
chain_none n cs [] h = tt
chain_none n cs (s ∷ ss) h =
    let from : s.va.0 + 0 ≡ s.va.0 = omega arith in
    let here : AllByRecursion (λ (c : Va). shares c.0 s ≡ false) cs =
    all_weaker (λ (c : Va). list_any (shares c.0) (s ∷ ss) ≡ false) (λ (c : Va). shares c.0 s ≡ false)
    (λ c e. left_false (shares c.0 s) _ e) cs h in
    let rest : AllByRecursion (λ (c : Va). list_any (shares c.0) ss ≡ false) cs =
    all_weaker (λ (c : Va). list_any (shares c.0) (s ∷ ss) ≡ false) (λ (c : Va). list_any (shares c.0) ss ≡ false)
    (λ c e. right_false (shares c.0 s) _ e) cs h in
    all_append (IsNoneOf (span_addresses (front_of n cs))) (run_of s.va.0 s.len) (span_addresses ss)
    (rw from at (run_none n cs s here 0 s.len (omega arith))) (chain_none n cs ss rest)

-- ---- the plan

none_before : (cs : List Va) → AreOff [] cs
none_before [] = tt
none_before (c ∷ cs) = (tt, none_before cs)

front_for : (chain : List Span) (cs : List Va) → EachAfter (IsClusterOf chain) [] cs → length cs ≤ entries_limit →
    span_bytes chain ≤ 4096 * length cs → AreClustersFor chain (front_of (span_bytes chain) cs)
front_for chain cs h few enough =
    let differ : Differ cs = all_differ chain [] cs h in
    let short : length (front_of (span_bytes chain) cs) ≤ length cs = front_short (span_bytes chain) cs in
    record {
      each = front_each (span_bytes chain) cs differ;
      alike = front_bytes (span_bytes chain) cs enough;
      few = omega (arith, short, few);
      unlike = front_unlike (span_bytes chain) cs [] differ (none_before cs);
      apart = chain_none (span_bytes chain) cs chain (all_apart chain [] cs h);
    }

pub plan_for : (chain : List Span) (cs : List Va) → EachAfter (IsClusterOf chain) [] cs → length cs ≤ entries_limit →
    IfSome (plan chain cs) (AreClustersFor chain)
plan_for chain cs h few = by (nat_lt (4096 * length cs) (span_bytes chain)) refl
  where
    by : (b : Bool) → nat_lt (4096 * length cs) (span_bytes chain) ≡ b →
        IfSome (if b then None else Some (front_of (span_bytes chain) cs)) (AreClustersFor chain)
    by true e = tt
    by false e = front_for chain cs h few (ltb-false _ _ e)
