-- The positions of bytes, by the sets of places at which they are lent.
use Rattle.std.proofs.Common.{◌≡◌, ℕ, zero, suc, ◌+◌, ◌-◌, ◌<◌, ◌≤◌, ◌&&◌, ◌||◌, not, Bool, true, false, if◌then◌else◌}
use Rattle.std.proofs.Common.{List, [], ◌∷◌, ◌++◌, map, take, drop, length, slice_index, nat_lt, refl, Some, None}
use Rattle.std.proofs.Common.{sym, ap, ◌∙◌, arith}
use Rattle.std.specs.List.{filter}
use Rattle.std.proofs.lemmas.Bool.Decides.{nat_tests}
use Rattle.std.proofs.lemmas.List.{length-drop, length-take, length-take-le, take-take}
use Rattle.busdma_machine.specs.declared.report.ReportName.{ReportName}
use Rattle.busdma_machine.specs.declared.report.Judged.TheVariants.{Fine, Refused}
use Rattle.busdma_machine.specs.Judging.{judged, refused_or}
use Rattle.busdma_machine.specs.Machine.Wire.{stretch}
use Rattle.busdma_machine.specs.Runs.{run_of}
use Rattle.busdma_rules.specs.Tags.SyncOps.{preread, prewrite, postread, postwrite}
use Rattle.run_set.specs.Edges.{is_inside_run, member, NoneIn, Rises}
use Rattle.busdma_rules.specs.declared.position.Position.{Position}
use Rattle.busdma_rules.specs.Lending.Loans.{Loan, addresses_of, new_loan}
use Rattle.busdma_rules.specs.Lending.Loans.{stands_twice, to_write, unlent_positions}
use Rattle.loan_table.specs.Kinds.{unlent_refusal}
use Rattle.busdma_rules.specs.Lending.SyncEffects.{marked, marked_range}
use Rattle.loan_table.specs.Rows.{alike, lent_like, placed, stands, AreAlike}
use Rattle.busdma_rules.proofs.Lending.Marking.{three_parts}
use Rattle.loan_table.proofs.Pieces.{two_parts}
use Rattle.loan_table.proofs.Places.{places_of}
use Rattle.loan_table.proofs.Stretches.{take_run}

abbrev pub position : ℕ → Bool → Bool → Position
position a r w = record { pa = a; to_read = r; to_write = w }

pub length-placed : (r w : ℕ → Bool) (at : ℕ) (bytes : List ℕ) → length (placed r w at bytes) ≡ length bytes
length-placed r w at [] = refl
length-placed r w at (a ∷ bytes) = ap suc (length-placed r w (at + 1) bytes)

pub addresses_of-placed : (r w : ℕ → Bool) (at : ℕ) (bytes : List ℕ) → addresses_of (placed r w at bytes) ≡ bytes
addresses_of-placed r w at [] = refl
addresses_of-placed r w at (a ∷ bytes) = ap (λ xs. a ∷ xs) (addresses_of-placed r w (at + 1) bytes)

take-placed : (r w : ℕ → Bool) (n at : ℕ) (bytes : List ℕ) → take n (placed r w at bytes) ≡ placed r w at
    (take n bytes)
take-placed r w zero at bytes = refl
take-placed r w (suc n) at [] = refl
take-placed r w (suc n) at (a ∷ bytes) = ap (λ xs. position a (r at) (w at) ∷ xs) (take-placed r w n (at + 1) bytes)

drop-placed : (r w : ℕ → Bool) (n at : ℕ) (bytes : List ℕ) →
    drop n (placed r w at bytes) ≡ placed r w (at + n) (drop n bytes)
drop-placed r w zero at bytes = let on : at ≡ at + zero = omega arith in ap (λ k. placed r w k bytes) on
drop-placed r w (suc n) at [] = refl
drop-placed r w (suc n) at (a ∷ bytes) =
    let on : at + 1 + n ≡ at + suc n = omega arith in
    drop-placed r w n (at + 1) bytes ∙ ap (λ k. placed r w k (drop n bytes)) on

drop_from : (r w : ℕ → Bool) (n : ℕ) (bytes : List ℕ) → drop n (placed r w 0 bytes) ≡ placed r w n (drop n bytes)
drop_from r w n bytes =
    let on : 0 + n ≡ n = omega arith in drop-placed r w n 0 bytes ∙ ap (λ k. placed r w k (drop n bytes)) on

pub stretch-placed : (r w : ℕ → Bool) (at n : ℕ) (bytes : List ℕ) →
    stretch at n (placed r w 0 bytes) ≡ placed r w at (stretch at n bytes)
stretch-placed r w at n bytes = ap (take n) (drop_from r w at bytes) ∙ take-placed r w n at (drop at bytes)

-- two sets agree on a range of places
abbrev Agree : (ℕ → Bool) → (ℕ → Bool) → ℕ → ℕ → Type 0
Agree r s at n = (i : ℕ) → at ≤ i → i < at + n → r i ≡ s i

same_places : (r w s v : ℕ → Bool) (at : ℕ) (bytes : List ℕ) → Agree r s at (length bytes) →
    Agree w v at (length bytes) →
    placed r w at bytes ≡ placed s v at bytes
same_places r w s v at [] p q = refl
same_places r w s v at (a ∷ bytes) p q =
    ap (λ b. position a b (w at) ∷ placed r w (at + 1) bytes) (p at (omega arith) (omega arith))
    ∙ ap (λ b. position a (s at) b ∷ placed r w (at + 1) bytes) (q at (omega arith) (omega arith))
    ∙ ap (λ xs. position a (s at) (v at) ∷ xs) (same_places r w s v (at + 1) bytes
    (λ i from to. p i (omega arith) (omega arith)) (λ i from to. q i (omega arith) (omega arith)))

-- consecutive places that agree give positions that are lent alike
alike_places : (r w : ℕ → Bool) (p : Position) (at : ℕ) (bytes : List ℕ) →
    ((i : ℕ) → at ≤ i → i < at + length bytes → r i ≡ p.to_read) →
    ((i : ℕ) → at ≤ i → i < at + length bytes → w i ≡ p.to_write) → placed r w at bytes ≡ lent_like p bytes
alike_places r w p at [] f g = refl
alike_places r w p at (a ∷ bytes) f g =
    ap (λ x. position a x (w at) ∷ placed r w (at + 1) bytes) (f at (omega arith) (omega arith))
    ∙ ap (λ x. position a p.to_read x ∷ placed r w (at + 1) bytes) (g at (omega arith) (omega arith))
    ∙ ap (λ xs. position a p.to_read p.to_write ∷ xs) (alike_places r w p (at + 1) bytes
    (λ i from to. f i (omega arith) (omega arith)) (λ i from to. g i (omega arith) (omega arith)))

-- the bytes of a range
pub bytes_between : (r w : ℕ → Bool) (at n : ℕ) (bytes : List ℕ) →
    addresses_of (stretch at n (placed r w 0 bytes)) ≡ stretch at n bytes
bytes_between r w at n bytes =
    ap addresses_of (stretch-placed r w at n bytes) ∙ addresses_of-placed r w at (stretch at n bytes)

-- a span of positions, by its places
pub span_alike : (r w : ℕ → Bool) (bytes : List ℕ) (at n : ℕ) (p : Position) →
    ((i : ℕ) → at ≤ i → i < at + n → r i ≡ p.to_read) → ((i : ℕ) → at ≤ i → i < at + n → w i ≡ p.to_write) →
    AreAlike p (stretch at n (placed r w 0 bytes))
span_alike r w bytes at n p f g =
    let long = length-take n (drop at bytes) in
    stretch-placed r w at n bytes
    ∙ alike_places r w p at (stretch at n bytes) (λ i from to. f i from (omega (arith, long)))
    (λ i from to. g i from (omega (arith, long)))
    ∙ ap (lent_like p) (sym (bytes_between r w at n bytes))

-- positions under the empty sets are lent in no way
pub none_placed : (at : ℕ) (bytes : List ℕ) → placed (member []) (member []) at bytes ≡ unlent_positions bytes
none_placed at [] = refl
none_placed at (a ∷ bytes) = ap (λ xs. position a false false ∷ xs) (none_placed (at + 1) bytes)

pub none_among : (r w bytes : List ℕ) → r ≡ [] → w ≡ [] → placed (member r) (member w) 0 bytes
    ≡ unlent_positions (addresses_of (placed (member r) (member w) 0 bytes))
none_among r w bytes e f =
    rw (e, f) (none_placed 0 bytes ∙ ap unlent_positions (sym (addresses_of-placed (member []) (member []) 0 bytes)))

pub none_to_write : (bytes : List ℕ) → filter to_write (unlent_positions bytes) ≡ []
none_to_write [] = refl
none_to_write (a ∷ bytes) = none_to_write bytes

-- the places that are lent to read after a sync call
abbrev read_after : ℕ → (ℕ → Bool) → ℕ → Bool
read_after ops r n = not (postwrite ops) && (prewrite ops || r n)

abbrev write_after : ℕ → (ℕ → Bool) → ℕ → Bool
write_after ops w n = not (postread ops) && (preread ops || w n)

map-marked : (ops : ℕ) (r w : ℕ → Bool) (at : ℕ) (bytes : List ℕ) →
    map (marked ops) (placed r w at bytes) ≡ placed (read_after ops r) (write_after ops w) at bytes
map-marked ops r w at [] = refl
map-marked ops r w at (a ∷ bytes) =
    ap (λ xs. position a (read_after ops r at) (write_after ops w at) ∷ xs) (map-marked ops r w (at + 1) bytes)

inside : (s e a : ℕ) → s ≤ a → a + 1 ≤ e → is_inside_run s e a ≡ true
inside s e a p q = grind (arith, nat_tests)

before : (s e a : ℕ) → a + 1 ≤ s → is_inside_run s e a ≡ false
before s e a p = grind (arith, nat_tests)

behind : (s e a : ℕ) → e ≤ a → is_inside_run s e a ≡ false
behind s e a p = grind (arith, nat_tests)

module _ (ops off len : ℕ) (r w s v : ℕ → Bool) (bytes : List ℕ)
    (p : (n : ℕ) → s n ≡ (if is_inside_run off (off + len) n then read_after ops r n else r n))
    (q : (n : ℕ) → v n ≡ (if is_inside_run off (off + len) n then write_after ops w n else w n)) where
  chosen : (f g : ℕ → Bool) (n : ℕ) (b c : Bool) → b ≡ c → (if b then f n else g n) ≡ (if c then f n else g n)
  chosen f g n b c e = ap (λ t. if t then f n else g n) e

  front : take off (placed r w 0 bytes) ≡ take off (placed s v 0 bytes)
  front =
      let long = length-take off bytes in
      take-placed r w off 0 bytes ∙ same_places r w s v 0 (take off bytes)
      (λ i from to. sym (p i ∙ chosen (read_after ops r) r i _ false (before off (off + len) i (omega (arith, long)))))
      (λ i from to. sym (q i ∙ chosen (write_after ops w) w i _ false
      (before off (off + len) i (omega (arith, long)))))
      ∙ sym (take-placed s v off 0 bytes)

  middle : map (marked ops) (stretch off len (placed r w 0 bytes)) ≡ stretch off len (placed s v 0 bytes)
  middle =
      let long = length-take len (drop off bytes) in
      ap (map (marked ops)) (stretch-placed r w off len bytes) ∙ map-marked ops r w off (stretch off len bytes)
      ∙ same_places (read_after ops r) (write_after ops w) s v off (stretch off len bytes)
      (λ i from to. sym (p i
      ∙ chosen (read_after ops r) r i _ true (inside off (off + len) i from (omega (arith, long)))))
      (λ i from to. sym (q i
      ∙ chosen (write_after ops w) w i _ true (inside off (off + len) i from (omega (arith, long)))))
      ∙ sym (stretch-placed s v off len bytes)

  back : drop (off + len) (placed r w 0 bytes) ≡ drop (off + len) (placed s v 0 bytes)
  back =
      drop_from r w (off + len) bytes ∙ same_places r w s v (off + len) (drop (off + len) bytes)
      (λ i from to. sym (p i ∙ chosen (read_after ops r) r i _ false (behind off (off + len) i from)))
      (λ i from to. sym (q i ∙ chosen (write_after ops w) w i _ false (behind off (off + len) i from)))
      ∙ sym (drop_from s v (off + len) bytes)

  pub marked_places : placed s v 0 bytes ≡ marked_range ops off len (placed r w 0 bytes)
  marked_places =
      sym (three_parts off len (placed s v 0 bytes))
      ∙ ap (λ xs. xs ++ stretch off len (placed s v 0 bytes) ++ drop (off + len) (placed s v 0 bytes)) (sym front)
      ∙ ap (λ xs. take off (placed r w 0 bytes) ++ xs ++ drop (off + len) (placed s v 0 bytes)) (sym middle)
      ∙ ap (λ xs. take off (placed r w 0 bytes) ++ map (marked ops) (stretch off len (placed r w 0 bytes)) ++ xs)
      (sym back)

-- a list that rises from one number to another is no longer than their difference
pub few_edges : (lo hi : ℕ) (es : List ℕ) → Rises lo hi es → lo + length es ≤ hi
few_edges lo hi [] h = omega (arith, h)
few_edges lo hi (e ∷ es) h = let rest : e + 1 + length es ≤ hi = few_edges (e + 1) hi es h.1 in omega
    (arith, rest, h.0)

-- whether a byte is in a row twice
pub twice_by : (a : ℕ) (coherent : Bool) (r w : ℕ → Bool) (bytes : List ℕ) →
    nat_lt 1 (stands a bytes) ≡ stands_twice a (record { coherent = coherent; positions = placed r w 0 bytes })
twice_by a coherent r w bytes =
    ap (λ xs. nat_lt 1 (stands a xs)) (sym (addresses_of-placed r w 0 bytes))
    ∙ ap (nat_lt 1) (places_of a (placed r w 0 bytes))

-- the byte of a stretch's first place
first_byte : (xs : List ℕ) (at n pa : ℕ) → 0 < n → take n (drop at xs) ≡ run_of pa n → pa ≡ slice_index xs at
first_byte xs at zero pa some e = absurd (omega arith)
first_byte [] zero (suc n) pa some e = absurd (cc)
first_byte [] (suc at) (suc n) pa some e = absurd (cc)
first_byte (x ∷ xs) zero (suc n) pa some e = ap (λ l. slice_index l 0) (sym e)
first_byte (x ∷ xs) (suc at) (suc n) pa some e = first_byte xs at (suc n) pa some e

pub byte_of : (r w : ℕ → Bool) (bytes : List ℕ) (at n pa : ℕ) → 0 < n → stretch at n bytes ≡ run_of pa n →
    pa ≡ slice_index (addresses_of (placed r w 0 bytes)) at
byte_of r w bytes at n pa some e =
    first_byte bytes at n pa some e ∙ ap (λ xs. slice_index xs at) (sym (addresses_of-placed r w 0 bytes))

-- a row over bytes that lends nothing
pub new_row : (coherent : Bool) (r w bytes buffer : List ℕ) → r ≡ [] → w ≡ [] → buffer ≡ bytes →
    ◌≡◌ {A = Loan} (record { coherent = coherent; positions = placed (member r) (member w) 0 buffer })
    (new_loan coherent bytes)
new_row coherent r w bytes buffer e f g =
    rw (e, f, g) (ap (λ ps. record { coherent = coherent; positions = ps }) (none_placed 0 bytes))

-- the positions from a place on begin with a piece, if they are lent alike and their bytes are a run
pub piece_ahead : (r w : ℕ → Bool) (bytes : List ℕ) (at end n len pa : ℕ) (p : Position) → n ≤ len → at + n ≤ end →
    p.pa ≡ pa → stretch at len bytes ≡ run_of pa len → AreAlike p (stretch at n (placed r w 0 bytes)) →
    stretch at (end - at) (placed r w 0 bytes)
    ≡ alike p n ++ stretch (at + n) (end - (at + n)) (placed r w 0 bytes)
piece_ahead r w bytes at end n len pa p short within same run all =
    two_parts at n end (placed r w 0 bytes) within
    ∙ ap (λ xs. xs ++ stretch (at + n) (end - (at + n)) (placed r w 0 bytes))
    (all ∙ ap (lent_like p) (bytes_between r w at n bytes ∙ sym (take-take n len (drop at bytes) short)
    ∙ ap (take n) run ∙ take_run pa len n short ∙ ap (λ a. run_of a n) (sym same)))

-- the bytes of the positions from a place on begin with a run
pub bytes_ahead : (r w : ℕ → Bool) (bytes : List ℕ) (at end n pa : ℕ) → at + n ≤ end →
    stretch at n bytes ≡ run_of pa n → addresses_of (stretch at (end - at) (placed r w 0 bytes))
    ≡ run_of pa n ++ addresses_of (stretch (at + n) (end - (at + n)) (placed r w 0 bytes))
bytes_ahead r w bytes at end n pa within run =
    bytes_between r w at (end - at) bytes ∙ two_parts at n end bytes within
    ∙ ap (λ xs. xs ++ stretch (at + n) (end - (at + n)) bytes) run
    ∙ ap (λ xs. run_of pa n ++ xs) (sym (bytes_between r w (at + n) (end - (at + n)) bytes))

-- positions that are all lent to write are Fine, and the first that is not is refused
none_unlent : (name : ReportName) (r w : ℕ → Bool) (place at : ℕ) (bytes : List ℕ) →
    NoneIn w false at (at + length bytes) → judged (unlent_refusal name) place (placed r w at bytes) ≡ Fine
none_unlent name r w place at [] none = refl
none_unlent name r w place at (b ∷ bytes) none =
    ap (λ t. refused_or (if t then None else Some name) place
    (judged (unlent_refusal name) (place + 1) (placed r w (at + 1) bytes)))
    (none at (omega arith) (omega arith))
    ∙ none_unlent name r w (place + 1) (at + 1) bytes (λ n p q. none n (omega arith) (omega arith))

some_unlent : (name : ReportName) (r w : ℕ → Bool) (place at : ℕ) (bytes : List ℕ) (k : ℕ) → k < length bytes →
    w (at + k) ≡ false → NoneIn w false at (at + k) →
    judged (unlent_refusal name) place (placed r w at bytes) ≡ Refused (record { name = name; at = place + k })
some_unlent name r w place at [] k short is none = absurd (omega arith)
some_unlent name r w place at (b ∷ bytes) zero short is none =
    let here : at + zero ≡ at = omega arith in
    let first : place ≡ place + zero = omega arith in
    ap (λ t. refused_or (if t then None else Some name) place
    (judged (unlent_refusal name) (place + 1) (placed r w (at + 1) bytes)))
    (sym (ap w here) ∙ is)
    ∙ ap (λ n. Refused (record { name = name; at = n })) first
some_unlent name r w place at (b ∷ bytes) (suc k) short is none =
    let on : at + suc k ≡ at + 1 + k = omega arith in
    let later : place + 1 + k ≡ place + suc k = omega arith in
    ap (λ t. refused_or (if t then None else Some name) place
    (judged (unlent_refusal name) (place + 1) (placed r w (at + 1) bytes)))
    (none at (omega arith) (omega arith))
    ∙ some_unlent name r w (place + 1) (at + 1) bytes k (omega arith) (sym (ap w on) ∙ is)
    (λ n p q. none n (omega arith) (omega arith))
    ∙ ap (λ n. Refused (record { name = name; at = n })) later

-- a range of positions, if the first that is not lent to write is known
module _ (name : ReportName) (r w : ℕ → Bool) (bytes : List ℕ) (place off len end : ℕ) (is_end : end ≡ off + len)
    (range : off + len ≤ length bytes) where
  long : length (stretch off len bytes) ≡ len
  long = length-take-le len (drop off bytes) (omega (arith, length-drop off bytes))

  pub all_to_write : NoneIn w false off end →
      Fine ≡ judged (unlent_refusal name) place (stretch off len (placed r w 0 bytes))
  all_to_write none =
      sym (ap (judged (unlent_refusal name) place) (stretch-placed r w off len bytes)
      ∙ none_unlent name r w place off (stretch off len bytes) (λ n p q. none n p (omega (arith, long))))

  pub first_unlent : (at : ℕ) → off ≤ at → at < end → w at ≡ false → NoneIn w false off at →
      Refused (record { name = name; at = place + (at - off) })
      ≡ judged (unlent_refusal name) place (stretch off len (placed r w 0 bytes))
  first_unlent at from to is none =
      let here : at ≡ off + (at - off) = omega arith in
      sym (ap (judged (unlent_refusal name) place) (stretch-placed r w off len bytes)
      ∙ some_unlent name r w place off (stretch off len bytes) (at - off) (omega (arith, long))
      (sym (ap w here) ∙ is) (λ n p q. none n p (omega arith)))
