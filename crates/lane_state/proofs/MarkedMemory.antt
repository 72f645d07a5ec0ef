-- The marks of a driver's bytes, as bytes are written and forgotten.
use Rattle.std.proofs.Common.{◌≡◌, ℕ, ◌==◌, Bool, true, false, cond, List, [], ◌∷◌, length, Option, Some, None, IsSome}
use Rattle.std.proofs.Common.{is_some, refl, sym, ap, ◌∙◌}
use Rattle.std.specs.List.{list_any}
use Rattle.std.specs.Option.{option_map}
use Rattle.std.specs.Ordering.{nat_cmp}
use Rattle.std.specs.FinMap.{FinMap, contains_key, get, insert, entries}
use Rattle.std.proofs.lemmas.Map.Views.{exact_unsigned_eq}
use Rattle.busdma_rules.specs.Lending.Loans.{Loans}
use Rattle.loan_table.specs.Table.{AreIn, set_all}
use Rattle.phys_memory.specs.Memory.{FrameMemory}
use Rattle.ideal_lane.specs.IdealMemory.{IdealMemory, Content, Known, Unknown, forgotten, has_address, written}
use Rattle.ideal_lane.specs.IdealMemory.{written_at}
use Rattle.lane_state.specs.Held.{byte_among, content_of, held}
use Rattle.lane_state.specs.Kept.{Device}
use Rattle.lane_state.proofs.HeldMemory.{AreMarks, mark_of}
use Rattle.lane_state.proofs.Marks.{get-put, get-set_all, kept_in}

mark-content : (o : Option Bool) (v : ℕ) → o ≡ mark_of (content_of o v)
mark-content None v = refl
mark-content (Some true) v = refl
mark-content (Some false) v = refl

-- the marks that are held are those of what is held
pub marks-held : (bytes : FinMap nat_cmp Bool) (loans : Loans) (d : ℕ → Device) (m : FrameMemory) →
    AreMarks bytes (held bytes loans d m)
marks-held bytes loans d m a = mark-content (get bytes a) (byte_among d m (entries loans) a)

known-mark : (o : Option Content) (v : ℕ) → is_some (mark_of o) ≡ true →
    Some true ≡ mark_of (option_map (λ c. Known v) o)
known-mark None v h = absurd (cc)
known-mark (Some c) v h = refl

-- a byte is written
one-written : (bytes : FinMap nat_cmp Bool) (memory : IdealMemory) (pa v : ℕ) → IsSome (get bytes pa) →
    AreMarks bytes memory → AreMarks (insert bytes pa true) (written_at pa v memory)
one-written bytes memory pa v there marks a = get-put bytes pa true a ∙ by (a == pa) refl
  where
    by : (b : Bool) → (a == pa) ≡ b → cond b (Some true) (get bytes a)
        ≡ mark_of (cond b (option_map (λ c. Known v) (memory a)) (memory a))
    by true e =
        let same : a ≡ pa = exact_unsigned_eq a pa e in
        known-mark (memory a) v (sym (ap is_some (marks a)) ∙ ap (λ q. is_some (get bytes q)) same ∙ there)
    by false e = marks a

-- bytes are written
pub marks-written : (bytes : FinMap nat_cmp Bool) (memory : IdealMemory) (pas vs : List ℕ) → length pas ≡ length vs →
    AreIn bytes pas → AreMarks bytes memory → AreMarks (set_all bytes pas true) (written pas vs memory)
marks-written bytes memory [] vs size are marks = marks
marks-written bytes memory (pa ∷ pas) [] size are marks = absurd (cc)
marks-written bytes memory (pa ∷ pas) (v ∷ vs) size are marks =
    let rest : length pas ≡ length vs = cc in
    marks-written (insert bytes pa true) (written_at pa v memory) pas vs rest (kept_in bytes pa true pas are.1)
    (one-written bytes memory pa v are.0 marks)

some_in : (bytes : FinMap nat_cmp Bool) (keys : List ℕ) (a : ℕ) → AreIn bytes keys →
    list_any (λ k. a == k) keys ≡ true → is_some (get bytes a) ≡ true
some_in bytes [] a are h = absurd (cc)
some_in bytes (k ∷ keys) a are h = by (some_in bytes keys a are.1) (a == k) refl h
  where
    by : (list_any (λ k. a == k) keys ≡ true → is_some (get bytes a) ≡ true) → (b : Bool) → (a == k) ≡ b →
        Rattle.std.specs.Prelude.◌||◌ b (list_any (λ k. a == k) keys) ≡ true → is_some (get bytes a) ≡ true
    by rest true t g = ap (λ q. is_some (get bytes q)) (exact_unsigned_eq a k t) ∙ are.0
    by rest false t g = rest g

unknown-mark : (o : Option Content) → is_some (mark_of o) ≡ true →
    Some false ≡ mark_of (option_map (λ c. Unknown) o)
unknown-mark None h = absurd (cc)
unknown-mark (Some c) h = refl

-- bytes are forgotten
pub marks-forgotten : (bytes : FinMap nat_cmp Bool) (memory : IdealMemory) (keys : List ℕ) → AreIn bytes keys →
    AreMarks bytes memory → AreMarks (set_all bytes keys false) (forgotten keys memory)
marks-forgotten bytes memory keys are marks a = get-set_all bytes keys false a ∙ by (has_address keys a) refl
  where
    by : (b : Bool) → has_address keys a ≡ b → cond b (Some false) (get bytes a)
        ≡ mark_of (cond b (option_map (λ c. Unknown) (memory a)) (memory a))
    by true e = unknown-mark (memory a) (sym (ap is_some (marks a)) ∙ some_in bytes keys a are e)
    by false e = marks a

pub some-mark : (o : Option Content) → is_some (mark_of o) ≡ is_some o
some-mark None = refl
some-mark (Some c) = refl

-- where the same bytes are marked, the same are the driver's own
pub own-marks : (bytes now : FinMap nat_cmp Bool) (before after : IdealMemory) → AreMarks bytes before →
    AreMarks now after → ((a : ℕ) → contains_key now a ≡ contains_key bytes a) → (a : ℕ) →
    is_some (after a) ≡ is_some (before a)
own-marks bytes now before after marks marked same a =
    sym (some-mark (after a)) ∙ sym (ap is_some (marked a)) ∙ same a ∙ ap is_some (marks a) ∙ some-mark (before a)
