-- The steps of a load, by what refuses it and by what it needs.
use Rattle.std.proofs.Common.{◌≡◌, ℕ, ◌≤◌, ◌<◌, ◌==◌, Bool, true, false, List, [], Option, Some, None, refl, sym, ap}
use Rattle.std.proofs.Common.{◌∙◌, is_some, nat_lt, if◌then◌else◌, arith}
use Rattle.std.proofs.lemmas.Bool.Decides.{nat_tests}
use Rattle.std.specs.FinMap.{get}
use Rattle.busdma_machine.specs.declared.bounce.hold.HubCall.TheVariants.{Grab}
use Rattle.busdma_base.specs.declared.journals.answer.Answer.TheVariants as answer
use Rattle.busdma_machine.specs.declared.report.Errno.TheVariants.{EINVAL}
use Rattle.busdma_machine.specs.declared.report.Judged.TheVariants as judged
use Rattle.busdma_machine.specs.declared.report.Report.{Report}
use Rattle.busdma_machine.specs.declared.report.ReportName.TheVariants.{Absent, MapBusy}
use Rattle.busdma_machine.specs.declared.machine.bio.Bio.{Bio}
use Rattle.busdma_machine.specs.declared.machine.chunk.Chunk.{Chunk}
use Rattle.busdma_base.specs.declared.scenarios.buffer.Buffer.TheVariants as buffer
use Rattle.busdma_base.specs.declared.scenarios.script.Item.{Item}
use Rattle.busdma_rules.specs.Segments.Chunks.{need_of}
use Rattle.ideal_lane.specs.Asking.{Asking, Gives, Asks}
use Rattle.ideal_lane.specs.Loads.{Asked, asked, chunks_for, device_load, ended, finished, granted, is_device}
use Rattle.ideal_lane.specs.Loads.{limits_of, load, load_chunks}
use Rattle.ideal_lane.specs.Loads.{load_entries, load_judged, zone_of_map}
use Rattle.ideal_lane.specs.Outcomes.{Outcome, gives, is_idle, refused, unless_absent, unless_refused}
use Rattle.ideal_lane.specs.Standing.{StandsAt}
use Rattle.ideal_lane.specs.State.{LaneMap, LaneMemory, LaneState, named}
use Rattle.lane_state.specs.Loading.{bio_bytes, bio_chunks, map_chunks}
use Rattle.ideal_lane.proofs.Direct.{need-memory}
use Rattle.ideal_lane.proofs.Needs.{bytes-few, need-few}

-- a load of a map that is not a memory's
pub plain-chunks : (l : LaneState) (m : ℕ) (o : LaneMap) (b : Bio) → get l.mems m ≡ None →
    map_chunks l m o b ≡ bio_chunks l o b
plain-chunks l m o b none = ap (λ q. chunks_for l o (is_some q) (load_entries l b)) none

module _ (l : LaneState) (m : ℕ) (b : Bio) (nowait : Bool) (items : List Item) where
  abbrev pub x : Asked
  x = asked m b nowait items l

  abbrev step : Asking Outcome
  step = load m x l

  abbrev long : LaneMap → Asking Outcome
  long o =
      if nat_lt (limits_of l o).maxsize x.len then Gives (ended m o (answer.Refused EINVAL) l)
      else if is_device l o then Gives (device_load m o x l)
      else load_chunks m o x (chunks_for l o (is_some (get l.mems m)) x.entries) l

  abbrev idle : LaneMap → Asking Outcome
  idle o = if is_idle o.stage then unless_refused x.judged l (long o) else refused MapBusy 0 l

  pub load-absent : get l.maps m ≡ None → step ≡ gives l (answer.Report (record { name = Absent; at = 0 }))
  load-absent none = ap (λ q. unless_absent q l idle) none

  module _ (o : LaneMap) (there : get l.maps m ≡ Some o) where
    pub load-busy : is_idle o.stage ≡ false → step ≡ gives l (answer.Report (record { name = MapBusy; at = 0 }))
    load-busy busy =
        ap (λ q. unless_absent q l idle) there
        ∙ ap (λ b. if b then unless_refused x.judged l (long o) else refused MapBusy 0 l) busy

    module _ (on : is_idle o.stage ≡ true) where
      judging : step ≡ unless_refused (load_judged l m b) l (long o)
      judging =
          ap (λ q. unless_absent q l idle) there
          ∙ ap (λ t. if t then unless_refused x.judged l (long o) else refused MapBusy 0 l) on

      pub load-refused : (r : Report) → load_judged l m b ≡ judged.Refused r →
          step ≡ gives l (answer.Report r)
      load-refused r is = judging ∙ ap (λ j. unless_refused j l (long o)) is

      module _ (fine : load_judged l m b ≡ judged.Fine) where
        passed : step ≡ long o
        passed = judging ∙ ap (λ j. unless_refused j l (long o)) fine

        pub load-long : (limits_of l o).maxsize < bio_bytes b → step ≡ gives
            (ended m o (answer.Refused EINVAL) l).lane (answer.Refused EINVAL)
        load-long over =
            let test : nat_lt (limits_of l o).maxsize x.len ≡ true = grind (arith, nat_tests, over) in
            passed ∙ ap (λ b. if b then Gives (ended m o (answer.Refused EINVAL) l)
            else if is_device l o then Gives (device_load m o x l)
            else load_chunks m o x (chunks_for l o (is_some (get l.mems m)) x.entries) l) test

        pub load-device : is_device l o ≡ true → bio_bytes b ≤ (limits_of l o).maxsize →
            step ≡ Gives (device_load m o x l)
        load-device behind short =
            let test : nat_lt (limits_of l o).maxsize x.len ≡ false = grind (arith, nat_tests, short) in
            passed ∙ ap (λ b. if b then Gives (ended m o (answer.Refused EINVAL) l)
            else if is_device l o then Gives (device_load m o x l)
            else load_chunks m o x (chunks_for l o (is_some (get l.mems m)) x.entries) l) test
            ∙ ap (λ b. if b then Gives (device_load m o x l)
            else load_chunks m o x (chunks_for l o (is_some (get l.mems m)) x.entries) l) behind

        module _ (plain : is_device l o ≡ false) (short : bio_bytes b ≤ (limits_of l o).maxsize) where
          abbrev chunks : List Chunk
          chunks = map_chunks l m o b

          cut : step ≡ load_chunks m o x chunks l
          cut =
              let test : nat_lt (limits_of l o).maxsize x.len ≡ false = grind (arith, nat_tests, short) in
              passed ∙ ap (λ b. if b then Gives (ended m o (answer.Refused EINVAL) l)
              else if is_device l o then Gives (device_load m o x l)
              else load_chunks m o x (chunks_for l o (is_some (get l.mems m)) x.entries) l) test
              ∙ ap (λ b. if b then Gives (device_load m o x l)
              else load_chunks m o x (chunks_for l o (is_some (get l.mems m)) x.entries) l) plain

          pub load-direct : need_of chunks ≡ 0 → step ≡ Gives (finished m o l.place x chunks [] l)
          load-direct none =
              let test : (need_of chunks == 0) ≡ true = grind (arith, nat_tests) in
              cut ∙ ap (λ b. if b then Gives (finished m o l.place x chunks [] l)
              else Asks (Grab (named l m) (record { 0 = zone_of_map o }) (need_of chunks) x.nowait)
              (granted m o x chunks l)) test

          pub load-bounced : get l.mems m ≡ None → (n : ℕ) → n ≡ need_of chunks → 0 < n →
              step ≡ Asks (Grab (named l m) (record { 0 = zone_of_map o }) n nowait)
              (granted m o x (bio_chunks l o b) l)
          load-bounced own n is some =
              let test : (need_of chunks == 0) ≡ false = grind (arith, nat_tests) in
              cut ∙ ap (λ b. if b then Gives (finished m o l.place x chunks [] l)
              else Asks (Grab (named l m) (record { 0 = zone_of_map o }) (need_of chunks) x.nowait)
              (granted m o x chunks l)) test
              ∙ (λ i. Asks (Grab (named l m) (record { 0 = zone_of_map o }) (sym is i) nowait)
              (granted m o x (plain-chunks l m o b own i) l))

-- the load of a memory's own map needs no page
pub plain-wanted : (l : LaneState) (m : ℕ) (o : LaneMap) (b : Bio) (n : ℕ) → StandsAt l.maxmem l.tags l.mems m o →
    n ≡ need_of (map_chunks l m o b) → 0 < n → get l.mems m ≡ None
plain-wanted l m o b n s is some = by (get l.mems m) refl
  where
    by : (q : Option LaneMemory) → get l.mems m ≡ q → q ≡ None
    by None e = refl
    by (Some y) e =
        let none : need_of (map_chunks l m o b) ≡ 0 =
        ap (λ c. need_of (chunks_for l o c (load_entries l b))) (ap is_some e) ∙ need-memory l o (load_entries l b) in
        absurd (omega (arith, none, is, some))

-- a load needs no more pages than it has bytes
pub few-wanted : (l : LaneState) (m : ℕ) (o : LaneMap) (b : Bio) (n : ℕ) → n ≡ need_of (map_chunks l m o b) →
    n ≤ bio_bytes b
few-wanted l m o b n is =
    omega (
      arith,
      is,
      need-few l o (is_some (get l.mems m)) (load_entries l b),
      bytes-few l (buffer.Bio b) b refl,
    )
