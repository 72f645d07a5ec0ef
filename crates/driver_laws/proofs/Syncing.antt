-- What syncs keep.
use Rattle.std.proofs.Common.{◌≡◌, ℕ, Bool, true, false, not, ◌&&◌, ◌||◌, List, [], ◌∷◌, if◌then◌else◌, cond, refl, ap}
use Rattle.std.proofs.Common.{◌∙◌, sym, ◌≢◌}
use Rattle.std.proofs.lemmas.Bool.{ne_eqb}
use Rattle.std.specs.Cmp.{unsigned_tied}
use Rattle.std.specs.FinMap.{FinMap, get, insert}
use Rattle.std.specs.List.{filter}
use Rattle.std.specs.Ordering.{nat_cmp}
use Rattle.busdma_machine.specs.Machine.Wire.{stretch}
use Rattle.busdma_machine.specs.declared.machine.address.Segment.{Segment}
use Rattle.busdma_machine.specs.declared.report.Judged.TheVariants.{Fine}
use Rattle.busdma_machine.specs.declared.report.ReportName.TheVariants.{MixedSync}
use Rattle.busdma_base.specs.declared.journals.answer.Answer.TheVariants as answer
use Rattle.busdma_rules.specs.Lending.Loans.{Loan, Loans, addresses_of, loan_of}
use Rattle.busdma_rules.specs.Lending.SyncEffects.{loses, lost, marked_range, sync_answer, synced}
use Rattle.busdma_rules.specs.Tags.SyncOps.{is_mixed, postread, postwrite, preread, prewrite}
use Rattle.busdma_rules.specs.declared.position.Position.{Position}
use Rattle.busdma_rules.proofs.Lending.Marking.{addresses_of-synced, loan_of-insert}
use Rattle.ideal_lane.specs.Asking.{Asking, by_reply}
use Rattle.ideal_lane.specs.IdealMemory.{forgotten}
use Rattle.ideal_lane.specs.Outcomes.{Outcome, gives, load_length, refused, unless_past, unless_refused}
use Rattle.ideal_lane.specs.State.{LaneMap, LaneState}
use Rattle.ideal_lane.specs.Syncs.{copies, counted, sync, sync_part, sync_range}
use Rattle.ideal_lane.proofs.Refusing.{either, judged, past, unloaded}
use Rattle.driver_laws.specs.Steps.{DiffersInWork, IsStep, KeepsContents, makes_unknown, mapped_bytes}
use Rattle.driver_laws.proofs.Accessing.{Ends, not-done}
use Rattle.driver_laws.proofs.Differing.{same-contents, then-keeps}
use Rattle.driver_laws.proofs.Loading.{HasLoad, put-loan}

-- ---- what is lost

loses-none : (p r w u : Bool) → (p && not r) ≡ false → (p && not w && not (r || u)) ≡ false
loses-none false r w u e = refl
loses-none true true true u e = refl
loses-none true true false u e = refl
loses-none true false w u e = absurd (cc)

filter-none : (ops : ℕ) (ps : List Position) → makes_unknown ops ≡ false → filter (loses ops) ps ≡ []
filter-none ops [] e = refl
filter-none ops (p ∷ ps) e =
    ap (λ b. cond b (p ∷ filter (loses ops) ps) (filter (loses ops) ps))
    (loses-none (preread ops) (prewrite ops) p.to_write p.to_read e) ∙ filter-none ops ps e

lost-none : (loans : Loans) (m off len ops : ℕ) → makes_unknown ops ≡ false → lost loans m off len ops ≡ []
lost-none loans m off len ops e = by (loan_of loans m).coherent
  where
    by : (b : Bool) →
        (if b then [] else addresses_of (filter (loses ops) (stretch off len (loan_of loans m).positions))) ≡ []
    by true = refl
    by false = ap addresses_of (filter-none ops (stretch off len (loan_of loans m).positions) e)

-- PREWRITE lends to read, and POSTREAD is mixed with no PREREAD
pub prewrite-keeps : (ops : ℕ) → prewrite ops ≡ true → makes_unknown ops ≡ false
prewrite-keeps ops e = ap (λ b. preread ops && not b) e ∙ by (preread ops)
  where
    by : (b : Bool) → (b && not true) ≡ false
    by true = refl
    by false = refl

pub postread-keeps : (ops : ℕ) → postread ops ≡ true → is_mixed ops ≡ false → makes_unknown ops ≡ false
postread-keeps ops e alone = by (preread ops) (prewrite ops) (postread ops) (postwrite ops) e alone
  where
    by : (p r q w : Bool) → q ≡ true → ((p || r) && (q || w)) ≡ false → (p && not r) ≡ false
    by false r q w f g = refl
    by true r false w f g = absurd (cc)
    by true r true w f g = absurd (cc)

-- ---- what is lent

module _ (loans : Loans) (m off len ops : ℕ) where
  synced-others : (j : ℕ) → j ≢ m → loan_of (synced loans m off len ops) j ≡ loan_of loans j
  synced-others j ne = by (loan_of loans m).coherent
    where
      x : Loan
      x = record { coherent = false; positions = marked_range ops off len (loan_of loans m).positions }

      by : (b : Bool) → loan_of (if b then loans else insert loans m x) j ≡ loan_of loans j
      by true = refl
      by false =
          loan_of-insert loans m x j
          ∙ ap (λ b. cond b x (loan_of loans j)) (unsigned_tied j m ∙ ne_eqb j m ne)

  synced-coherent : (loan_of loans m).coherent ≡ false → (loan_of (synced loans m off len ops) m).coherent ≡ false
  synced-coherent e =
      ap (λ b. (loan_of (if b then loans else insert loans m x) m).coherent) e
      ∙ ap (λ (y : Loan). y.coherent) (put-loan loans m x)
    where
      x : Loan
      x = record { coherent = false; positions = marked_range ops off len (loan_of loans m).positions }

-- ---- the step

module _ (k : LaneState) (m off len ops : ℕ) where
  record IsSynced (n : LaneState) : Type 0 where
    pub loans : n.loans ≡ synced k.loans m off len ops
    pub memory : n.memory ≡ forgotten (lost k.loans m off len ops) k.memory
    pub pages : n.pages ≡ k.pages
    pub mems : n.mems ≡ k.mems
    pub maps : n.maps ≡ k.maps
    pub alone : is_mixed ops ≡ false
    pub fine : sync_answer k.loans m off len ops ≡ Fine

  abbrev Syncs : Asking Outcome → Type 0
  Syncs = Ends answer.Done IsSynced

  abbrev done_step : LaneMap → Asking Outcome
  done_step o = gives (record k {
    loans = synced k.loans m off len ops;
    memory = forgotten (lost k.loans m off len ops) k.memory;
    shares = counted (copies off len ops o.stage) o.zone k.shares;
  }) answer.Done

  part : (o : LaneMap) → Syncs (sync_part m o off len ops k)
  part o =
      either k Syncs (λ x r e. absurd (not-done x e)) (is_mixed ops) (refused MixedSync 0 k)
      (unless_refused (sync_answer k.loans m off len ops) k (done_step o))
      (λ mixed r e. absurd (not-done _ e)) (λ alone.
      judged k Syncs (λ x r e. absurd (not-done x e)) (sync_answer k.loans m off len ops) (done_step o)
      (λ fine r e. record {
        loans = refl;
        memory = refl;
        pages = refl;
        mems = refl;
        maps = refl;
        alone = alone;
        fine = fine;
      }))

  range-syncs : Syncs (sync_range m off len ops k)
  range-syncs =
      unloaded k Syncs (λ x r e. absurd (not-done x e)) m (λ o. unless_past m off len k (sync_part m o off len ops k))
      (λ o there is. past k Syncs (λ x r e. absurd (not-done x e)) m off len (sync_part m o off len ops k) (part o))

syncs : (k : LaneState) (m ops : ℕ) → Syncs k m 0 (load_length k m) ops (sync m ops k)
syncs k m ops =
    unloaded k (Syncs k m 0 (load_length k m) ops) (λ x r e. absurd (not-done x e)) m
    (λ o. sync_part m o 0 (load_length k m) ops k) (λ o there is. part k m 0 (load_length k m) ops o)

-- ---- what it keeps

module _ (l k x n : LaneState) (begun : DiffersInWork l k) (m off len ops : ℕ) (h : IsSynced k m off len ops x)
    (left : DiffersInWork x n) where
  still-mapped : (j : ℕ) → mapped_bytes n j ≡ mapped_bytes l j
  still-mapped j =
      ap (λ (y : LaneState). mapped_bytes y j) left
      ∙ ap (λ (loans : Loans). addresses_of (loan_of loans j).positions) h.loans
      ∙ addresses_of-synced k.loans m off len ops j ∙ ap (λ (y : LaneState). mapped_bytes y j) begun

  same-memory : makes_unknown ops ≡ false → x.memory ≡ k.memory
  same-memory keeps = h.memory ∙ ap (λ keys. forgotten keys k.memory) (lost-none k.loans m off len ops keeps)

  still-contents : makes_unknown ops ≡ false → KeepsContents l n
  still-contents keeps =
      then-keeps l k n (same-contents l k begun)
      (then-keeps k x n (record { pages = h.pages; mems = h.mems; memory = same-memory keeps })
      (same-contents x n left))

module _ (l n : LaneState) (m ops : ℕ) (s : IsStep (sync m ops) l n answer.Done) where
  end : LaneState
  end = (by_reply (sync m ops s.begun) s.reply).lane

  synced-so : IsSynced s.begun m 0 (load_length s.begun m) ops (by_reply (sync m ops s.begun) s.reply).lane
  synced-so = syncs s.begun m ops s.reply s.answer

  pub sync-mapped : (j : ℕ) → mapped_bytes n j ≡ mapped_bytes l j
  sync-mapped =
      still-mapped l s.begun (by_reply (sync m ops s.begun) s.reply).lane n s.same m 0 (load_length s.begun m) ops
      synced-so s.left

  pub sync-contents : makes_unknown ops ≡ false → KeepsContents l n
  sync-contents =
      still-contents l s.begun (by_reply (sync m ops s.begun) s.reply).lane n s.same m 0 (load_length s.begun m) ops
      synced-so s.left

  pub sync-alone : is_mixed ops ≡ false
  sync-alone = synced-so.alone

  -- even a sync that makes bytes Unknown leaves which bytes are the driver's
  pub sync-pages : n.pages ≡ l.pages
  sync-pages = ap (λ (y : LaneState). y.pages) s.left ∙ synced-so.pages ∙ ap (λ (y : LaneState). y.pages) s.same

  pub sync-mems : n.mems ≡ l.mems
  sync-mems = ap (λ (y : LaneState). y.mems) s.left ∙ synced-so.mems ∙ ap (λ (y : LaneState). y.mems) s.same

  pub sync-load : (ss : List Segment) → HasLoad l m ss → HasLoad n m ss
  sync-load ss h = record {
    own = h.own;
    there = ap (λ (y : LaneState). get y.maps m) s.left ∙ ap (λ (ms : FinMap nat_cmp LaneMap). get ms m) synced-so.maps
        ∙ ap (λ (y : LaneState). get y.maps m) s.same ∙ h.there;
    bounced = h.bounced;
    given = h.given;
    stage = h.stage;
  }

  -- what is lent after it
  pub sync-loans : n.loans ≡ synced l.loans m 0 (load_length l m) ops
  sync-loans =
      ap (λ (y : LaneState). y.loans) s.left ∙ synced-so.loans
      ∙ ap (λ (y : LaneState). synced y.loans m 0 (load_length y m) ops) s.same

  -- what other maps lend
  pub sync-others : (j : ℕ) → j ≢ m → loan_of n.loans j ≡ loan_of l.loans j
  sync-others j ne =
      ap (λ loans. loan_of loans j) sync-loans ∙ synced-others l.loans m 0 (load_length l m) ops j ne

  pub sync-coherent : (loan_of l.loans m).coherent ≡ false → (loan_of n.loans m).coherent ≡ false
  sync-coherent e =
      ap (λ loans. (loan_of loans m).coherent) sync-loans ∙ synced-coherent l.loans m 0 (load_length l m) ops e

  pub sync-fine : sync_answer l.loans m 0 (load_length l m) ops ≡ Fine
  sync-fine =
      sym (ap (λ (y : LaneState). sync_answer y.loans m 0 (load_length y m) ops) s.same) ∙ synced-so.fine

  -- the bytes that it makes Unknown
  pub sync-forgets : (keys : List ℕ) × (n.memory ≡ forgotten keys l.memory)
  sync-forgets = (
    lost s.begun.loans m 0 (load_length s.begun m) ops,
    ap (λ (y : LaneState). y.memory) s.left ∙ synced-so.memory
        ∙ ap (λ (y : LaneState). forgotten (lost s.begun.loans m 0 (load_length s.begun m) ops) y.memory) s.same,
  )

module _ (l n : LaneState) (m off len ops : ℕ) (s : IsStep (sync_range m off len ops) l n answer.Done) where
  pub range-mapped : (j : ℕ) → mapped_bytes n j ≡ mapped_bytes l j
  range-mapped =
      still-mapped l s.begun (by_reply (sync_range m off len ops s.begun) s.reply).lane n s.same m off len ops
      (range-syncs s.begun m off len ops s.reply s.answer) s.left

  pub range-contents : makes_unknown ops ≡ false → KeepsContents l n
  range-contents =
      still-contents l s.begun (by_reply (sync_range m off len ops s.begun) s.reply).lane n s.same m off len ops
      (range-syncs s.begun m off len ops s.reply s.answer) s.left
