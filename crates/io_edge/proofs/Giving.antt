-- Texts that are added one after the other.
use Rattle.std.proofs.Common.{◌≡◌, ℕ, ◌+◌, ◌<◌, ◌≤◌, List, [], ◌++◌, length, take, Bool, true, false, Option, Some}
use Rattle.std.proofs.Common.{None}
use Rattle.std.proofs.Common.{Result, Ok, Err, OnOk, OnErr, inl, inr, refl, sym, ap, subst, ◌∙◌, arith}
use Rattle.std.proofs.Common.{append_assoc, append-nil, length-append}
use Rattle.std.proofs.Math.Seq.{take-append-add}
use Rattle.std.proofs.lemmas.List.{take-append-le}
use Rattle.std.specs.Borrow.{MutBor}
use Rattle.std.specs.Io.KnownBytes.{Appends}
use Rattle.io_edge.specs.declared.pieces.Pieces.{Pieces}
use Rattle.io_edge.specs.declared.sink.Unwritten.{Unwritten}
use Rattle.io_edge.specs.Faults.{Rose}
use Rattle.io_edge.specs.Writing.{WritesPart}
use Rattle.io_edge.specs.Pieces.{Standing, PiecesGoOn, PiecesFail, HadFailed, StandsAfter}
use Rattle.io_edge.specs.Pieces.{Begins, PiecesGive, PiecesEnd, standing, pieces_ended}

-- bytes that were appended one after the other were appended as one text
pub appends_both : (h i j : Option (List ℕ)) (x y : List ℕ) → Appends h i x → Appends i j y → Appends h j (x ++ y)
appends_both None i j x y was more = tt
appends_both (Some h) None j x y was more = absurd was
appends_both (Some h) (Some i) None x y was more = absurd more
appends_both (Some h) (Some i) (Some j) x y was more = more ∙ ap (λ k. k ++ y) was ∙ append_assoc h x y

-- adding two texts without a fault is adding both as one
goes_on_both : (a b c : Standing) (s t : List ℕ) → PiecesGoOn a s b → PiecesGoOn b t c → PiecesGoOn a (s ++ t) c
goes_on_both a b c s t first second = record {
  well = first.well;
  still = second.still;
  written = first.written ++ second.written;
  held = appends_both a.held b.held c.held first.written second.written first.held second.held;
  all = append_assoc first.written second.written c.waiting ∙ ap (λ r. first.written ++ r) second.all
      ∙ sym (append_assoc first.written b.waiting t) ∙ ap (λ r. r ++ t) first.all ∙ append_assoc a.waiting s t;
  faults = second.faults ∙ first.faults;
}

-- what was written before a fault and during it is a front of both texts
fails_later : (a b c : Standing) (s t : List ℕ) → PiecesGoOn a s b → PiecesFail b t c → PiecesFail a (s ++ t) c
fails_later a b c s t first second =
    let x = first.written in
    let n = second.part.0 in
    let all : x ++ (b.waiting ++ t) ≡ a.waiting ++ (s ++ t) =
    sym (append_assoc x b.waiting t) ∙ ap (λ r. r ++ t) first.all ∙ append_assoc a.waiting s t in
    let front : x ++ take n (b.waiting ++ t) ≡ take (length x + n) (a.waiting ++ (s ++ t)) =
    sym (take-append-add x (b.waiting ++ t) n) ∙ ap (take (length x + n)) all in
    record {
      well = first.well;
      failed = second.failed;
      part = (
        length x + n,
        omega (arith, second.part.1, length-append x (b.waiting ++ t), ap length all),
        subst (Appends a.held c.held) front
            (appends_both a.held b.held c.held x (take n (b.waiting ++ t)) first.held second.part.2),
      );
      rose = subst (λ f. Rose f c.faults) first.faults second.rose;
      count = subst (λ f. f ≤ c.faults) first.faults second.count;
    }

-- after a fault nothing more of the text is written
fails_before : (a b c : Standing) (s t : List ℕ) → PiecesFail a s b → HadFailed b c → PiecesFail a (s ++ t) c
fails_before a b c s t first second =
    let n = first.part.0 in
    let less : n < length (a.waiting ++ s) = first.part.1 in
    let all : (a.waiting ++ s) ++ t ≡ a.waiting ++ (s ++ t) = append_assoc a.waiting s t in
    let front : take n (a.waiting ++ s) ≡ take n (a.waiting ++ (s ++ t)) =
    sym (take-append-le n (a.waiting ++ s) t (omega arith)) ∙ ap (take n) all in
    record {
      well = first.well;
      failed = second.still;
      part = (
        n,
        omega (arith, less, length-append (a.waiting ++ s) t, ap length all),
        subst (λ h. Appends a.held h (take n (a.waiting ++ (s ++ t)))) (sym second.held)
            (subst (Appends a.held b.held) front first.part.2),
      );
      rose = subst (λ f. Rose a.faults f) (sym second.faults) first.rose;
      count = subst (λ f. a.faults ≤ f) (sym second.faults) first.count;
    }

pub stands_then : (a b c : Standing) (s t : List ℕ) → StandsAfter a s b → StandsAfter b t c → StandsAfter a (s ++ t) c
stands_then a b c s t (inl first) (inl second) = inl (goes_on_both a b c s t first second)
stands_then a b c s t (inl first) (inr (inl second)) = inr (inl (fails_later a b c s t first second))
stands_then a b c s t (inl first) (inr (inr second)) = absurd (cc (first.still, second.failed))
stands_then a b c s t (inr (inl first)) (inl second) = absurd (cc (first.failed, second.well))
stands_then a b c s t (inr (inl first)) (inr (inl second)) = absurd (cc (first.failed, second.well))
stands_then a b c s t (inr (inl first)) (inr (inr second)) = inr (inl (fails_before a b c s t first second))
stands_then a b c s t (inr (inr first)) (inl second) = absurd (cc (first.still, second.well))
stands_then a b c s t (inr (inr first)) (inr (inl second)) = absurd (cc (first.still, second.well))
stands_then a b c s t (inr (inr first)) (inr (inr second)) = inr (inr (record {
  failed = first.failed;
  still = second.still;
  held = second.held ∙ first.held;
  faults = second.faults ∙ first.faults;
}))

-- no bytes were appended
appends_none : (h : Option (List ℕ)) → Appends h h []
appends_none None = tt
appends_none (Some h) = sym (append-nil h)

-- adding no bytes keeps the state of a text
still_by : (failed : Bool) (a : Standing) → a.failed ≡ failed → StandsAfter a [] a
still_by true a is = inr (inr (record { failed = is; still = is; held = refl; faults = refl }))
still_by false a is = inl (record {
  well = is;
  still = is;
  written = [];
  held = appends_none a.held;
  all = sym (append-nil a.waiting);
  faults = refl;
})

stands_still : (a : Standing) → StandsAfter a [] a
stands_still a = still_by a.failed a refl

-- adding a text and then ending it is adding the text
stands_on : (a b c : Standing) (s : List ℕ) → StandsAfter a s b → StandsAfter b [] c → StandsAfter a s c
stands_on a b c s first second =
    subst (λ r. StandsAfter a r c) (append-nil s) (stands_then a b c s [] first second)

-- a text that ended without a fault was written completely
ended_well : (a : Standing) (text : List ℕ) (z : Standing) → z.waiting ≡ [] → a.waiting ≡ [] → a.failed ≡ false
    → z.failed ≡ false → StandsAfter a text z
    → Appends a.held z.held text × (z.faults ≡ a.faults) × (a.faults ≤ z.faults)
ended_well a text z none empty well still (inl on) =
    let all : on.written ≡ text =
    sym (append-nil on.written) ∙ ap (λ r. on.written ++ r) (sym none) ∙ on.all ∙ ap (λ r. r ++ text) empty in
    (subst (Appends a.held z.held) all on.held, on.faults, omega (arith, on.faults))
ended_well a text z none empty well still (inr (inl fails)) = absurd (cc (still, fails.failed))
ended_well a text z none empty well still (inr (inr had)) = absurd (cc (well, had.failed))

-- of a text that ended with a fault, a front was written
ended_ill : (a : Standing) (text : List ℕ) (z : Standing) → a.waiting ≡ [] → a.failed ≡ false → z.failed ≡ true
    → StandsAfter a text z → WritesPart text a.held z.held × Rose a.faults z.faults × (a.faults ≤ z.faults)
ended_ill a text z empty well ill (inl on) = absurd (cc (ill, on.still))
ended_ill a text z empty well ill (inr (inl fails)) =
    (subst (λ r. WritesPart (r ++ text) a.held z.held) empty fails.part, fails.rose, fails.count)
ended_ill a text z empty well ill (inr (inr had)) = absurd (cc (well, had.failed))

-- what writing a text did to its sink, by the result
pub record Wrote {K : Type 0} (held : K → Option (List ℕ)) (faults : K → ℕ)
    (text : List ℕ) (before : K) (result : Result (Unit {0}) Unwritten) (after : K) : Type 0 where
  pub written : OnOk result (Appends (held before) (held after) text)
  pub unwritten : OnErr result (WritesPart text (held before) (held after))
  pub failed : OnErr result (Rose (faults before) (faults after))
  pub unfailed : OnOk result (faults after ≡ faults before)
  pub count : faults before ≤ faults after

module _ {K : Type 0} {held : K → Option (List ℕ)} {faults : K → ℕ} where
  -- two texts that are added one after the other are added as one
  pub gives_then : {a b c : Pieces K} {s t : List ℕ}
      → PiecesGive held faults a s b → PiecesGive held faults b t c → PiecesGive held faults a (s ++ t) c
  gives_then {a} {b} {c} {s} {t} first second = record {
    same_sink = second.same_sink ∙ first.same_sink;
    stands = stands_then _ _ _ s t first.stands second.stands;
  }

  -- nothing was added
  pub gives_nothing : (a : Pieces K) → PiecesGive held faults a [] a
  gives_nothing a = record { same_sink = refl; stands = stands_still (standing held faults a) }

  -- a text can be replaced by an equal one
  pub gives_as : {a b : Pieces K} {s t : List ℕ} → s ≡ t → PiecesGive held faults a s b → PiecesGive held faults a t b
  gives_as {a} {b} {s} {t} same given = subst (λ r. PiecesGive held faults a r b) same given

  -- a text that was begun, got these bytes and was ended
  pub wrote : (sink : MutBor K) (begun given : Pieces K) (text : List ℕ) (result : Result (Unit {0}) Unwritten)
      (after : K)
      → Begins sink begun → PiecesGive held faults begun text given → PiecesEnd held faults given result after
      → Wrote held faults text sink.now result after
  wrote sink begun given text (Ok done) after begins gives ends =
      let end = pieces_ended held faults (Ok done) after in
      let all = ended_well (standing held faults begun) text end refl begins.empty begins.well refl
      (stands_on _ _ _ text gives.stands ends) in
      subst (λ k. Wrote held faults text k (Ok done) after) begins.untouched
      (record { written = all.0; unwritten = tt; failed = tt; unfailed = all.1; count = all.2 })
  wrote sink begun given text (Err why) after begins gives ends =
      let end = pieces_ended held faults (Err why) after in
      let all = ended_ill (standing held faults begun) text end begins.empty begins.well refl
      (stands_on _ _ _ text gives.stands ends) in
      subst (λ k. Wrote held faults text k (Err why) after) begins.untouched
      (record { written = tt; unwritten = all.0; failed = all.1; unfailed = tt; count = all.2 })
