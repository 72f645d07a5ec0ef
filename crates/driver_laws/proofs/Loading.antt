-- What a load leaves that answers segments.
use Rattle.std.proofs.Common.{◌≡◌, ℕ, ◌==◌, Bool, true, false, List, [], ◌∷◌, length, map, Option, Some, None}
use Rattle.std.proofs.Common.{if◌then◌else◌, cond, unwrap_or, nat_lt, refl, ap, sym, ◌∙◌, subst, eq-eqb, append-nil}
use Rattle.std.proofs.Common.{zero, suc, slice_get}
use Rattle.std.specs.Cmp.{unsigned_tied}
use Rattle.std.specs.FinMap.{contains_key, get, insert}
use Rattle.std.specs.Option.{option_map}
use Rattle.busdma_machine.specs.Machine.Entry.{entries_addresses}
use Rattle.busdma_machine.specs.Machine.Spans.{bio_spans, span_addresses}
use Rattle.busdma_machine.specs.Runs.{run_of}
use Rattle.busdma_machine.specs.declared.bounce.hold.HubCall.TheVariants.{Grab}
use Rattle.busdma_machine.specs.declared.bounce.hold.HubReply.{HubReply}
use Rattle.busdma_machine.specs.declared.bounce.hold.HubReply.TheVariants as reply
use Rattle.busdma_machine.specs.declared.machine.address.Pa.{Pa}
use Rattle.busdma_machine.specs.declared.machine.address.Segment.{Segment}
use Rattle.busdma_machine.specs.declared.machine.bio.Bio.{Bio}
use Rattle.busdma_machine.specs.declared.machine.chunk.Chunk.{Chunk}
use Rattle.busdma_machine.specs.declared.name.MapId.{MapId}
use Rattle.busdma_machine.specs.declared.report.Errno.{Errno}
use Rattle.busdma_machine.specs.declared.report.Errno.TheVariants.{EINVAL}
use Rattle.busdma_machine.specs.declared.report.Judged.TheVariants.{Fine}
use Rattle.busdma_machine.specs.declared.report.Report.{Report}
use Rattle.busdma_base.specs.declared.journals.answer.Answer.{Answer}
use Rattle.busdma_base.specs.declared.journals.answer.Answer.TheVariants as answer
use Rattle.busdma_base.specs.declared.scenarios.buffer.Buffer.{Buffer}
use Rattle.busdma_base.specs.declared.scenarios.buffer.Buffer.TheVariants.{Flat}
use Rattle.busdma_base.specs.declared.scenarios.script.Item.{Item}
use Rattle.busdma_base.specs.declared.scenarios.script.Place.{Place}
use Rattle.busdma_rules.specs.Iommu.Device.{device_chunks, load_frames}
use Rattle.busdma_rules.specs.Iommu.Space.{first_free}
use Rattle.busdma_rules.specs.Lending.Loans.{Loan, Loans, addresses_of, loan_of, new_loan, unlent_positions}
use Rattle.busdma_rules.specs.Memory.Bios.{is_rounded}
use Rattle.busdma_rules.specs.Memory.Translation.{missing, physical_or_0, unreached}
use Rattle.busdma_rules.specs.Segments.Chunks.{need_of}
use Rattle.busdma_rules.specs.declared.position.Position.{Position}
use Rattle.busdma_rules.proofs.Lending.Marking.{loan_of-insert}
use Rattle.busdma_rules.proofs.Memory.Paged.{IsPaged}
use Rattle.lane_agreement.specs.After.{addresses_of_pages}
use Rattle.ideal_lane.specs.Asking.{Asking, Asks, Gives, by_reply}
use Rattle.ideal_lane.specs.Loads.{Asked, asked, chunks_for, device_load, ended, finished, granted, is_coherent}
use Rattle.ideal_lane.specs.Loads.{is_device, limits_of, load, load_addresses, load_chunks, load_entries, load_judged}
use Rattle.ideal_lane.specs.Loads.{load_translation, taken, zone_of_map}
use Rattle.ideal_lane.specs.Outcomes.{Outcome, gives, unless_refused}
use Rattle.ideal_lane.specs.Places.{first_unreached, physical, virtual_at}
use Rattle.ideal_lane.specs.State.{LaneMap, LaneState, Loaded, Waiting, WaitingLoad, named}
use Rattle.ideal_lane.specs.Turns.{bio_at, called, called_at, called_in, flat_bio, load_buffer, never_waits}
use Rattle.ideal_lane.proofs.Endings.{bounced_in, fits, fitting, segments_of, too_big}
use Rattle.ideal_lane.proofs.Refusing.{absent, busy, either, judged}
use Rattle.ideal_wire.specs.Laid.{AreLaid, IsAwaited, LiesIn}
use Rattle.ideal_wire.specs.Machine.{IsInMachine}
use Rattle.ideal_wire.specs.Traces.{stage_in}
use Rattle.ideal_wire.specs.WireStep.{place_bytes}
use Rattle.ideal_wire.proofs.Laid.Positions.{found_one}
use Rattle.ideal_wire.proofs.Laid.SameBytes.{entries-same, judged-same}
use Rattle.ideal_wire.proofs.Loads.Asked.{all-fine, all-of, of-pages}
use Rattle.ideal_wire.proofs.Loads.Bios.{IsOfPages, bio-paged, bio_places, with-pages}
use Rattle.ideal_wire.proofs.Loads.Reaching.{AllReached, all-reached, entries-bytes}
use Rattle.ideal_wire.proofs.Tags.KeptTags.{put-there}
use Rattle.driver_laws.specs.Steps.{DiffersInWork, IsStep, KeepsContents, called_step, mapped_bytes}
use Rattle.driver_laws.proofs.Accessing.{Ends, left-over}
use Rattle.driver_laws.proofs.Differing.{same-bio, same-contents, then-keeps}

-- ---- answers

not-segments : (ss : List Segment) (r : Report) → answer.Segments ss ≡ answer.Report r → ⊥
not-segments ss r e = absurd (cc)

not-refused : (ss : List Segment) (n : Errno) → answer.Segments ss ≡ answer.Refused n → ⊥
not-refused ss n e = absurd (cc)

not-begun : (ss : List Segment) (have need : ℕ) → answer.Segments ss ≡ answer.InProgress have need → ⊥
not-begun ss have need e = absurd (cc)

abbrev segments_of_answer : Answer → List Segment
segments_of_answer (answer.Segments ss) = ss
segments_of_answer _ = []

-- ---- the loan of a new load

unlent-addresses : (bytes : List ℕ) → addresses_of (unlent_positions bytes) ≡ bytes
unlent-addresses [] = refl
unlent-addresses (b ∷ bytes) = ap (λ bs. b ∷ bs) (unlent-addresses bytes)

pub put-loan : (loans : Loans) (m : ℕ) (x : Loan) → loan_of (insert loans m x) m ≡ x
put-loan loans m x =
    loan_of-insert loans m x m ∙ ap (λ b. cond b x (loan_of loans m)) (unsigned_tied m m ∙ eq-eqb m m refl)

-- the bytes of a map with a new loan
new-bytes : (n : LaneState) (m : ℕ) (coherent : Bool) (bytes : List ℕ) → loan_of n.loans m ≡ new_loan coherent bytes →
    mapped_bytes n m ≡ bytes
new-bytes n m coherent bytes e = ap (λ (y : Loan). addresses_of y.positions) e ∙ unlent-addresses bytes

-- none of which is lent to write
new-unlent : (bytes : List ℕ) (i : ℕ) (p : Position) → slice_get (unlent_positions bytes) i ≡ Some p →
    p.to_write ≡ false
new-unlent [] i p e = absurd (cc)
new-unlent (b ∷ bytes) zero p e =
    sym (ap (λ (q : Position). q.to_write) (found_one (Some (record { pa = b; to_read = false; to_write = false }))
    (record { pa = b; to_read = false; to_write = false }) p refl e))
new-unlent (b ∷ bytes) (suc i) p e = new-unlent bytes i p e

-- ---- the load

-- a map is loaded with these segments
pub record HasLoad (n : LaneState) (m : ℕ) (ss : List Segment) : Type 0 where
  pub own : LaneMap
  pub there : get n.maps m ≡ Some own
  pub bounced : List Chunk
  pub given : List ℕ
  pub stage : own.stage ≡ Loaded bounced ss given

-- so it is whatever the driver's work is
pub still-loaded : (k n : LaneState) (m : ℕ) (ss : List Segment) → DiffersInWork k n → HasLoad k m ss → HasLoad n m ss
still-loaded k n m ss e h = record {
  own = h.own;
  there = ap (λ (y : LaneState). get y.maps m) e ∙ h.there;
  bounced = h.bounced;
  given = h.given;
  stage = h.stage;
}

module _ (k : LaneState) (m : ℕ) (x : Asked) (ss : List Segment) where
  -- the driver after a load with segments
  record IsAfter (n : LaneState) : Type 0 where
    pub contents : KeepsContents k n
    pub loan : loan_of n.loans m ≡ new_loan (is_coherent (get k.mems m)) (entries_addresses x.entries)
    pub load : HasLoad n m ss

  abbrev Loads : Asking Outcome → Type 0
  Loads = Ends (answer.Segments ss) IsAfter

  -- so it is after a load whose bytes are judged fine
  abbrev LoadsFine : Asking Outcome → Type 0
  LoadsFine = Ends (answer.Segments ss) (λ n. IsAfter n × (x.judged ≡ Fine))

  -- the same of an outcome
  abbrev Becomes : Outcome → Type 0
  Becomes o = answer.Segments ss ≡ o.answer → IsAfter o.lane

  report : (r : Report) → Loads (gives k (answer.Report r))
  report x r e = absurd (not-segments ss x e)

  module _ (o : LaneMap) where
    finishes : (at : ℕ) (chunks : List Chunk) (pages : List ℕ) → Becomes (finished m o at x chunks pages k)
    finishes at chunks pages = by (fits k m o at x chunks pages)
      where
        placed : LaneMap
        placed = record o {
          tried = true;
          stage = Loaded (bounced_in k m o at x chunks pages) (segments_of k m o at x chunks pages) pages;
        }

        by : (fit : Bool) → Becomes (if fit then fitting k m o at x chunks pages else too_big k m o at x chunks pages)
        by true e = record {
          contents = record { pages = refl; mems = refl; memory = refl };
          loan = put-loan k.loans m (new_loan (is_coherent (get k.mems m)) (entries_addresses x.entries));
          load = record {
            own = placed;
            there = put-there k.maps m placed;
            bounced = bounced_in k m o at x chunks pages;
            given = pages;
            stage =
                ap (λ y. Loaded (bounced_in k m o at x chunks pages) y pages) (sym (ap segments_of_answer e));
          };
        }
        by false e = absurd (not-refused ss _ e)

    takes : (q : Option ℕ) → Becomes (taken m o x q k)
    takes None e = absurd (not-refused ss _ e)
    takes (Some first) e =
        let h = finishes k.place (device_chunks first 0 x.entries) [] e in
        record {
          contents = record { pages = h.contents.pages; mems = h.contents.mems; memory = h.contents.memory };
          loan = h.loan;
          load = record {
            own = h.load.own;
            there = h.load.there;
            bounced = h.load.bounced;
            given = h.load.given;
            stage = h.load.stage;
          };
        }

    of-device : Becomes (device_load m o x k)
    of-device = by (length (load_frames x.entries) == 0)
      where
        by : (none : Bool) → Becomes (if none then finished m o k.place x (device_chunks 0 0 x.entries) [] k
            else taken m o x (first_free (k.spaces o.tag) (length (load_frames x.entries))) k)
        by true = finishes k.place (device_chunks 0 0 x.entries) []
        by false = takes (first_free (k.spaces o.tag) (length (load_frames x.entries)))

    of-reply : (chunks : List Chunk) (r : HubReply) → Becomes (granted m o x chunks k r)
    of-reply chunks (reply.Granted pages) e = finishes k.place chunks (addresses_of_pages pages) e
    of-reply chunks (reply.Queued have) e = absurd (not-begun ss _ _ e)
    of-reply chunks _ e = absurd (not-refused ss _ e)

    of-chunks : (chunks : List Chunk) → Loads (load_chunks m o x chunks k)
    of-chunks chunks = by (need_of chunks == 0)
      where
        by : (none : Bool) → Loads (if none then Gives (finished m o k.place x chunks [] k)
            else Asks (Grab (named k m) (record { 0 = zone_of_map o }) (need_of chunks) x.nowait)
            (granted m o x chunks k))
        by true = λ r e. finishes k.place chunks [] e
        by false = λ r e. of-reply chunks r e

    abbrev last_step : Asking Outcome
    last_step =
        if is_device k o then Gives (device_load m o x k)
        else load_chunks m o x (chunks_for k o (contains_key k.mems m) x.entries) k

    begun : Loads
        (if nat_lt (limits_of k o).maxsize x.len then Gives (ended m o (answer.Refused EINVAL) k) else last_step)
    begun =
        either k Loads report (nat_lt (limits_of k o).maxsize x.len) (Gives (ended m o (answer.Refused EINVAL) k))
        last_step (λ long r e. absurd (not-refused ss _ e)) (λ short.
        either k Loads report (is_device k o) (Gives (device_load m o x k))
        (load_chunks m o x (chunks_for k o (contains_key k.mems m) x.entries) k) (λ behind r e. of-device e)
        (λ direct. of-chunks (chunks_for k o (contains_key k.mems m) x.entries)))

  abbrev load_step : LaneMap → Asking Outcome
  load_step o =
      if nat_lt (limits_of k o).maxsize x.len then Gives (ended m o (answer.Refused EINVAL) k)
      else if is_device k o then Gives (device_load m o x k)
      else load_chunks m o x (chunks_for k o (contains_key k.mems m) x.entries) k

  loads : LoadsFine (load m x k)
  loads =
      busy k LoadsFine (λ q r e. absurd (not-segments ss q e)) m (λ o. unless_refused x.judged k (load_step o))
      (λ o there idle.
      judged k LoadsFine (λ q r e. absurd (not-segments ss q e)) x.judged (load_step o)
      (λ fine r e. (begun o r e, fine)))

-- ---- the load of a buffer

-- the driver after the load of a buffer with segments
record IsLoaded (k : LaneState) (m : ℕ) (x : Buffer) (ss : List Segment) (n : LaneState) : Type 0 where
  pub bio : Bio
  pub at : bio_at k x ≡ Some bio
  pub contents : KeepsContents k n
  pub fine : load_judged k m bio ≡ Fine
  pub loan : loan_of n.loans m ≡ new_loan (is_coherent (get k.mems m)) (entries_addresses (load_entries k bio))
  pub load : HasLoad n m ss

module _ (k : LaneState) (m flags : ℕ) (x : Buffer) (items : List Item) (ss : List Segment) where
  abbrev Buffers : Asking Outcome → Type 0
  Buffers = Ends (answer.Segments ss) (IsLoaded k m x ss)

  buffer-loads : Buffers (load_buffer m x flags items k)
  buffer-loads =
      absent k Buffers (λ q r e. absurd (not-segments ss q e)) (bio_at k x)
      (λ b. load m (asked m b (never_waits x flags) items k) k) (λ b there r e.
      let h = loads k m (asked m b (never_waits x flags) items k) ss r e in
      record {
        bio = b;
        at = there;
        contents = h.0.contents;
        fine = h.1;
        loan = h.0.loan;
        load = h.0.load;
      })

module _ (l n : LaneState) (m flags : ℕ) (x : Buffer) (items : List Item) (ss : List Segment)
    (s : IsStep (load_buffer m x flags items) l n (answer.Segments ss)) where
  abbrev k : LaneState
  k = s.begun

  abbrev end : LaneState
  end = (by_reply (load_buffer m x flags items s.begun) s.reply).lane

  same : KeepsContents l s.begun
  same = same-contents l s.begun s.same

  done : IsLoaded s.begun m x ss end
  done = buffer-loads s.begun m flags x items ss s.reply s.answer

  found-bio : bio_at l x ≡ Some done.bio
  found-bio = sym (same-bio l s.begun same.mems same.pages x) ∙ done.at

  pub loaded-bio : (b : Bio) × (bio_at l x ≡ Some b)
  loaded-bio = (done.bio, found-bio)

  pub load-contents : KeepsContents l n
  load-contents = then-keeps l s.begun n same (then-keeps s.begun end n done.contents (same-contents end n s.left))

  -- the new loan is coherent if the map is a coherent memory's, and lends nothing
  pub load-coherent : (loan_of n.loans m).coherent ≡ is_coherent (get l.mems m)
  load-coherent =
      ap (λ (y : LaneState). (loan_of y.loans m).coherent) s.left ∙ ap (λ (y : Loan). y.coherent) done.loan
      ∙ ap (λ (y : LaneState). is_coherent (get y.mems m)) s.same

  pub load-unlent : (i : ℕ) (p : Position) → slice_get (loan_of n.loans m).positions i ≡ Some p → p.to_write ≡ false
  load-unlent i p at =
      new-unlent (entries_addresses (load_entries s.begun done.bio)) i p
      (sym (ap (λ (y : LaneState). slice_get (loan_of y.loans m).positions i) s.left
      ∙ ap (λ (y : Loan). slice_get y.positions i) done.loan) ∙ at)

  pub has-load : HasLoad n m ss
  has-load = still-loaded end n m ss s.left done.load

  module _ (b : Bio) (there : bio_at l x ≡ Some b) where
    is : done.bio ≡ b
    is = found_one (bio_at l x) done.bio b found-bio there

    judged-fine : load_judged l m b ≡ Fine
    judged-fine =
        sym (judged-same l s.begun same.mems same.pages m b) ∙ ap (load_judged s.begun m) (sym is) ∙ done.fine

    pub load-reached : AllReached (load_translation l b) (span_addresses (bio_spans b))
    load-reached = all-reached l m b judged-fine

    pub load-mapped : IsPaged (λ p. Unit {0}) (load_translation l b) → mapped_bytes n m ≡ load_addresses l b
    load-mapped paged =
        ap (λ (y : LaneState). mapped_bytes y m) s.left
        ∙ new-bytes end m (is_coherent (get s.begun.mems m)) (entries_addresses (load_entries s.begun done.bio))
        done.loan
        ∙ ap (λ y. entries_addresses (load_entries s.begun y)) is
        ∙ ap entries_addresses (entries-same l s.begun same.mems same.pages b)
        ∙ entries-bytes (load_translation l b) paged (is_rounded b) (bio_spans b) (all-reached l m b judged-fine)

-- ---- the load of a place

flat-bio : (len : ℕ) (o : Option ℕ) (b : Bio) → option_map (flat_bio len) o ≡ Some b → b ≡ flat_bio len (unwrap_or o 0)
flat-bio len None b e = absurd (cc)
flat-bio len (Some va) b e = found_one (Some b) b (flat_bio len va) refl (sym e)

module _ (l n : LaneState) (m len flags : ℕ) (place : Place) (items : List Item) (ss : List Segment)
    (s : IsStep (load_buffer m (Flat place len) flags items) l n (answer.Segments ss)) where
  pub flat-mapped : IsPaged (λ p. Unit {0}) (physical l) → mapped_bytes n m ≡ place_bytes l place len
  flat-mapped paged =
      let b : Bio = (loaded-bio l n m flags (Flat place len) items ss s).0 in
      let there : bio_at l (Flat place len) ≡ Some b = (loaded-bio l n m flags (Flat place len) items ss s).1 in
      let va : ℕ = unwrap_or (virtual_at l place) 0 in
      let is : b ≡ flat_bio len va = flat-bio len (virtual_at l place) b there in
      load-mapped l n m flags (Flat place len) items ss s b there
      (subst (λ y. IsPaged (λ p. Unit {0}) (load_translation l y)) (sym is) paged)
      ∙ ap (load_addresses l) is ∙ ap (map (physical_or_0 (physical l))) (append-nil (run_of va len))

  -- the place is there, and the driver reaches each of its bytes
  pub flat-there : virtual_at l place ≡ Some (unwrap_or (virtual_at l place) 0)
  flat-there = by (virtual_at l place) (loaded-bio l n m flags (Flat place len) items ss s).1
    where
      by : (o : Option ℕ) → option_map (flat_bio len) o ≡ Some (loaded-bio l n m flags (Flat place len) items ss s).0 →
          o ≡ Some (unwrap_or o 0)
      by None e = absurd (cc)
      by (Some va) e = refl

  pub flat-reached : first_unreached l (unwrap_or (virtual_at l place) 0) len ≡ Fine
  flat-reached =
      let va : ℕ = unwrap_or (virtual_at l place) 0 in
      let there : bio_at l (Flat place len) ≡ Some (flat_bio len va) = ap (option_map (flat_bio len)) flat-there in
      let all : AllReached (physical l) (run_of va len) =
      subst (AllReached (physical l)) (append-nil (run_of va len))
      (load-reached l n m flags (Flat place len) items ss s (flat_bio len va) there) in
      all-fine (unreached (physical l)) 0 (run_of va len)
      (all-of (λ v. (p : ℕ) × (physical l v ≡ Some p)) (λ v. unreached (physical l) v ≡ None)
      (λ v r. ap missing r.1) (run_of va len) all)

-- ---- the callback of a load that waited

module _ (l n : LaneState) (m : MapId) (pages : List Pa) (o : LaneMap) (w : WaitingLoad) (ss : List Segment)
    (there : get l.maps m.made_at ≡ Some o) (stage : o.stage ≡ Waiting w)
    (s : IsStep (called_step m pages) l n (answer.Segments ss)) where
  abbrev now : LaneState
  now = s.begun

  abbrev place : ℕ
  place = m.made_at

  abbrev given : List ℕ
  given = addresses_of_pages pages

  contents : KeepsContents l s.begun
  contents = same-contents l s.begun s.same

  is-called : called place (get now.maps place) given now ≡ called_at place o w given now
  is-called =
      ap (λ q. called place q given now)
      (ap (λ (y : LaneState). get y.maps place) s.same ∙ there)
      ∙ ap (λ q. called_in place o q given now) stage

  after : IsAfter now place (asked place w.bio false w.items now) ss (called_at place o w given now).lane
  after =
      finishes now place (asked place w.bio false w.items now) ss o w.load_at
      (chunks_for now o (contains_key now.mems place) (load_entries now w.bio)) given
      (s.answer ∙ ap (λ (y : Outcome). y.answer) is-called)

  left : DiffersInWork (called_at place o w given now).lane n
  left =
      left-over (called_at place o w given now).lane (called place (get now.maps place) given now).lane n
      (ap (λ (y : Outcome). y.lane) is-called) s.left

  pub called-contents : KeepsContents l n
  called-contents =
      then-keeps l now n contents
      (then-keeps now (called_at place o w given now).lane n after.contents
      (same-contents (called_at place o w given now).lane n left))

  pub called-load : HasLoad n place ss
  called-load = still-loaded (called_at place o w given now).lane n place ss left after.load

  pub called-mapped : AreLaid l → IsInMachine l → mapped_bytes n place ≡ load_addresses l w.bio
  called-mapped laid machine =
      let awaited : IsAwaited l place w = subst (LiesIn l place) (ap stage_in there ∙ stage) (laid.each place) in
      ap (λ (y : LaneState). mapped_bytes y place) left
      ∙ new-bytes (called_at place o w given now).lane place (is_coherent (get now.mems place))
      (entries_addresses (load_entries now w.bio)) after.loan
      ∙ ap entries_addresses (entries-same l now contents.mems contents.pages w.bio)
      ∙ entries-bytes (load_translation l w.bio) (bio-paged l laid machine w.bio awaited.named) (is_rounded w.bio)
      (bio_spans w.bio)
      (all-of (IsOfPages l w.bio) _ (λ va r. (r.0, with-pages l w.bio va r.0 r.1)) (bio_places w.bio)
      (of-pages l w.bio awaited.own))
