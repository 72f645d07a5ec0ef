-- Steps that end no load with pages leave the loads of a driver laid, whatever the reply to their call.
use Rattle.std.proofs.Common.{[], ◌≡◌, ◌≢◌, ℕ, ◌==◌, Bool, true, false, cond, if◌then◌else◌, List, ◌∷◌, length, Option}
use Rattle.std.proofs.Common.{Some, None, refl, ap, sym, ◌∙◌, subst, arith, unwrap_or, option_map}
use Rattle.std.proofs.lemmas.Bool.{false≢true, eqb-true}
use Rattle.std.specs.FinMap.{get, insert, remove}
use Rattle.std.specs.Option.{option_map_or}
use Rattle.busdma_machine.specs.declared.tags.tag.TagLimits.{TagLimits}
use Rattle.busdma_machine.specs.Runs.{run_of}
use Rattle.lane_agreement.specs.View.{Return, returning}
use Rattle.busdma_rules.specs.Lending.SyncEffects.{lost, lost_by_forgetting, marked_range}
use Rattle.busdma_rules.specs.Lending.SyncEffects as lending
use Rattle.busdma_rules.specs.Lending.Loans.{Loan, Loans, addresses_of, loan_of, no_loan, load_bytes}
use Rattle.busdma_rules.proofs.Lending.Marking.{addresses_of-synced}
use Rattle.ideal_lane.specs.Accesses.{raw_bytes}
use Rattle.ideal_lane.specs.Loads.{emptied, is_device, limits_of, no_limits, staged, unpaged}
use Rattle.ideal_lane.specs.Maps.{with_map, without_map}
use Rattle.ideal_lane.specs.Outcomes.{Outcome, is_idle, is_loaded}
use Rattle.ideal_lane.specs.Places.{bytes_at}
use Rattle.ideal_lane.specs.Standing.{Stands}
use Rattle.ideal_lane.specs.State.{LaneState, LaneTag, LaneMap, LaneMemory, Stage, Idle, Waiting, Loaded, Returning}
use Rattle.ideal_lane.specs.Tags.{with_tag, has_maps, with_device_tag}
use Rattle.busdma_rules.specs.Iommu.Space.{Space}
use Rattle.ideal_lane.specs.State.{no_space}
use Rattle.ideal_lane.specs.Tags.{with_space}
use Rattle.ideal_lane.specs.Rings.{head_of, posted}
use Rattle.ideal_lane.specs.Unloads.{loan_forgotten as unlent, unmapped, pages_of, restaged, segments_in, after_return}
use Rattle.busdma_rules.specs.Rings.Descriptors.{descriptor_bytes}
use Rattle.ideal_lane.proofs.Effects.{DeviceWrites, Fetches, Posts, RawWrites, Same, Syncs, Touches, Work, Writes}
use Rattle.ideal_lane.proofs.Effects.{after_fetch, after_sync, after_write}
use Rattle.ideal_lane.proofs.Lookups.{get_put}
use Rattle.ideal_wire.specs.Laid.{LiesIn, AreLaid}
use Rattle.ideal_wire.specs.Traces.{stage_in, stage_at}
use Rattle.ideal_wire.proofs.Laid.Alike.{KeepsLimits, KeepsRest, IsAlike, none-changed, one-changed}
use Rattle.ideal_wire.proofs.Tags.KeptTags.{KeepsTags, cut-off, cut-there, keeps-put, new-tag, put-off, put-there}
use Rattle.ideal_wire.proofs.Tags.KeptTags.{says-in}
use Rattle.ideal_wire.proofs.Tags.KeptTags.{untagged}
use Rattle.ideal_wire.proofs.Laid.Positions.{found_one}
use Rattle.ideal_wire.proofs.Faithful.Wiring.{own-fetched, own-forgotten, own-written}
use Rattle.busdma_base.specs.Scenarios.Operations.{bytes_of}

-- a sync leaves which loans are coherent
coherent-synced : (loans : Loans) (m off len ops n : ℕ) →
    (loan_of (lending.synced loans m off len ops) n).coherent ≡ (loan_of loans n).coherent
coherent-synced loans m off len ops n = by (loan_of loans m).coherent refl
  where
    new : Loan
    new = record { coherent = false; positions = marked_range ops off len (loan_of loans m).positions }

    here : (loan_of loans m).coherent ≡ false → (t : Bool) → (n == m) ≡ t →
        (unwrap_or (cond t (Some new) (get loans n)) no_loan).coherent ≡ (loan_of loans n).coherent
    here e true t = sym (ap (λ k. (loan_of loans k).coherent) (eqb-true n m t) ∙ e)
    here e false t = refl

    by : (b : Bool) → (loan_of loans m).coherent ≡ b →
        (loan_of (cond b loans (insert loans m new)) n).coherent ≡ (loan_of loans n).coherent
    by true e = refl
    by false e = ap (λ o. (unwrap_or o no_loan).coherent) (get_put loans m new n) ∙ here e (n == m) refl

pub kept-map : (l l' : LaneState) (n : ℕ) → KeepsTags l l' → loan_of l'.loans n ≡ loan_of l.loans n →
    get l'.maps n ≡ get l.maps n → IsAlike l l' n
kept-map l l' n tags loan there = record {
  stage = ap stage_in there;
  coherent = ap (λ (x : Loan). x.coherent) loan;
  bytes = ap (λ (x : Loan). addresses_of x.positions) loan;
  unlent = λ none. loan;
  limits = λ o e. (o, sym there ∙ e, ap (λ x. x.0) (tags n o (sym there ∙ e)));
  device = ap (λ y. option_map_or (is_device l') y false) there ∙ by (get l.maps n) refl;
}
  where
    by : (y : Option LaneMap) → get l.maps n ≡ y → option_map_or (is_device l') y false ≡ option_map_or (is_device l) y
        false
    by None e = refl
    by (Some o) e = ap (λ x. x.1) (tags n o e)

module _ (l : LaneState) (laid : AreLaid l) where
  -- a map with no load lends nothing
  pub no-loan-in : (m : ℕ) (s : Stage) → stage_at l m ≡ s → is_loaded s ≡ false → loan_of l.loans m ≡ no_loan
  no-loan-in m s e none = by s none (subst (LiesIn l m) e (laid.each m))
    where
      by : (s : Stage) → is_loaded s ≡ false → LiesIn l m s → loan_of l.loans m ≡ no_loan
      by Idle none h = h
      by (Waiting w) none h = h.unlent
      by (Loaded cs ss ps) none h = absurd (cc)
      by Returning none h = h

  pub no-loan : (m : ℕ) (o : LaneMap) → get l.maps m ≡ Some o → is_loaded o.stage ≡ false → loan_of l.loans m ≡ no_loan
  no-loan m o e none = no-loan-in m o.stage (ap stage_in e) none

  pub idle-unloaded : (s : Stage) → is_idle s ≡ true → is_loaded s ≡ false
  idle-unloaded Idle e = refl
  idle-unloaded (Waiting w) e = absurd (cc)
  idle-unloaded (Loaded cs ss ps) e = absurd (cc)
  idle-unloaded Returning e = absurd (cc)

  -- a step leaves maps, loans, tags and memory
  pub like : (l' : LaneState) → KeepsRest l l' → KeepsTags l l' → l'.maps ≡ l.maps → l'.loans ≡ l.loans → AreLaid l'
  like l' rest tags maps loans =
      none-changed l l' rest laid (λ n. kept-map l l' n tags (λ i. loan_of (loans i) n) (λ i. get (maps i) n))

  -- a map of this tag was there
  abbrev pub HadTag : ℕ → ℕ → Type 0
  HadTag m t = (o : LaneMap) × (get l.maps m ≡ Some o) × (o.tag ≡ t)

  -- what the tag of a map says is unchanged if the map that comes has the tag of the one that was there
  pub put-limits : (l' : LaneState) → KeepsTags l l' → (m : ℕ) (x : LaneMap) → get l'.maps m ≡ Some x →
      HadTag m x.tag → KeepsLimits l l' m
  put-limits l' tags m x now had o' at =
      let same : x ≡ o' = found_one (get l'.maps m) x o' now at in (
        had.0,
        had.1,
        sym (ap (limits_of l') same)
            ∙ sym (ap (λ t. unwrap_or (option_map (λ (g : LaneTag). g.limits) (get l'.tags t)) no_limits) had.2)
            ∙ ap (λ x. x.0) (tags m had.0 had.1),
      )

  -- one map has another stage and lends as it lent; a memory's map keeps its tag
  pub put : (l' : LaneState) → KeepsRest l l' → KeepsTags l l' → (m : ℕ) (x : LaneMap) → l'.maps ≡ insert l.maps m x →
      l'.loans ≡ l.loans → ((y : LaneMemory) → get l.mems m ≡ Some y → HadTag m x.tag) → LiesIn l' m x.stage →
      AreLaid l'
  put l' rest tags m x maps loans had here =
      one-changed l l' rest laid m
      (λ n off. kept-map l l' n tags (λ i. loan_of (loans i) n) ((λ i. get (maps i) n) ∙ put-off l.maps m n x off))
      (λ y there. put-limits l' tags m x ((λ i. get (maps i) m) ∙ put-there l.maps m x) (had y there))
      (subst (LiesIn l' m) (sym ((λ i. stage_in (get (maps i) m)) ∙ ap stage_in (put-there l.maps m x))) here)

  cut : (l' : LaneState) → KeepsRest l l' → KeepsTags l l' → (m : ℕ) → l'.maps ≡ remove l.maps m →
      l'.loans ≡ l.loans → loan_of l.loans m ≡ no_loan → AreLaid l'
  cut l' rest tags m maps loans none =
      one-changed l l' rest laid m
      (λ n off. kept-map l l' n tags (λ i. loan_of (loans i) n) ((λ i. get (maps i) n) ∙ cut-off l.maps m n off))
      (λ y there o' at.
      let gone : None ≡ Some o' = sym ((λ i. get (maps i) m) ∙ cut-there l.maps m) ∙ at in absurd (cc))
      (subst (LiesIn l' m) (sym ((λ i. stage_in (get (maps i) m)) ∙ ap stage_in (cut-there l.maps m)))
      ((λ i. loan_of (loans i) m) ∙ none))

  -- ---- syncs and accesses
  module _ (m off len ops : ℕ) (o : LaneMap) (there : get l.maps m ≡ Some o) (is : is_loaded o.stage ≡ true) where
    synced-alike : (l' : LaneState) → l'.maps ≡ l.maps → l'.tags ≡ l.tags →
        l'.loans ≡ lending.synced l.loans m off len ops → (n : ℕ) → IsAlike l l' n
    synced-alike l' maps tags loans n = record {
      stage = λ i. stage_in (get (maps i) n);
      coherent = (λ i. (loan_of (loans i) n).coherent) ∙ coherent-synced l.loans m off len ops n;
      bytes = (λ i. addresses_of (loan_of (loans i) n).positions) ∙ addresses_of-synced l.loans m off len ops n;
      unlent = λ none. (λ i. loan_of (loans i) n) ∙ another none;
      limits = λ x e. (
        x,
        sym (λ i. get (maps i) n) ∙ e,
        λ i. unwrap_or (option_map (λ (t : LaneTag). t.limits) (get (tags i) x.tag)) no_limits,
      );
      device = λ i. option_map_or (λ (x : LaneMap). option_map_or (λ (t : LaneTag). t.device) (get (tags i) x.tag)
          false)
          (get (maps i) n) false;
    }
      where
        off-map : is_loaded (stage_at l n) ≡ false → n ≢ m
        off-map none e =
            false≢true (sym none ∙ ap (λ k. is_loaded (stage_at l k)) e ∙ ap (λ y. is_loaded (stage_in y)) there
            ∙ is)

        new : Loan
        new = record { coherent = false; positions = marked_range ops off len (loan_of l.loans m).positions }

        by : (b : Bool) → n ≢ m → loan_of (cond b l.loans (insert l.loans m new)) n ≡ loan_of l.loans n
        by true ne = refl
        by false ne = ap (λ y. unwrap_or y no_loan) (put-off l.loans m n new ne)

        another : is_loaded (stage_at l n) ≡ false →
            loan_of (lending.synced l.loans m off len ops) n ≡ loan_of l.loans n
        another none = by (loan_of l.loans m).coherent (off-map none)

  pub written-still : (bytes vs : List ℕ) → AreLaid (after_write l bytes vs)
  written-still bytes vs =
      like (after_write l bytes vs)
      (record { script = refl; pages = refl; maxmem = refl; own = own-written bytes vs l.memory; mems = refl })
      (λ n o e. refl) refl refl

  pub touches-laid : {d : Work} {x : Outcome} → Touches l d x → AreLaid x.lane
  touches-laid (Same a q u) = laid
  touches-laid (Syncs m off len ops is o there i alone fine) =
      none-changed l (after_sync l m o off len ops) (record {
        script = refl;
        pages = refl;
        maxmem = refl;
        own = own-forgotten (lost l.loans m off len ops) l.memory;
        mems = refl;
      }) laid (synced-alike m off len ops o there i (after_sync l m o off len ops) refl refl refl)
  touches-laid (Writes place bs va at reaches fine) =
      written-still (bytes_at l (run_of va (length (bytes_of bs)))) (bytes_of bs)
  touches-laid (Posts k slot m off len kind fill r ring o there i may va at reaches fine) =
      written-still (bytes_at l (run_of va 16)) (descriptor_bytes (posted (segments_in o.stage) off len kind fill))
  touches-laid (DeviceWrites m off bs o there i fine) =
      written-still (load_bytes l.loans m off (length (bytes_of bs))) (bytes_of bs)
  touches-laid (RawWrites t addr bs g there fine) =
      written-still (raw_bytes l t (run_of addr (length (bytes_of bs)))) (bytes_of bs)
  touches-laid (Fetches k f) =
      like (after_fetch l k f.r (head_of f.r l) f.c)
      (record { script = refl; pages = refl; maxmem = refl; own = own-fetched l f.r (head_of f.r l) f.c; mems = refl })
      (λ n o e. refl) refl refl

  -- ---- the ends of loads

  -- a map whose pages are on their way back, or that has none, is laid if it lends nothing
  pub emptied-lies : (l' : LaneState) (m : ℕ) (pages : List ℕ) → loan_of l'.loans m ≡ no_loan →
      LiesIn l' m (emptied pages)
  emptied-lies l' m [] none = none
  emptied-lies l' m (p ∷ ps) none = none

  -- a map becomes idle
  pub staged-still : (m : ℕ) (o : LaneMap) → get l.maps m ≡ Some o → loan_of l.loans m ≡ no_loan →
      AreLaid (staged m o Idle l)
  staged-still m o there none =
      put (staged m o Idle l) (record { script = refl; pages = refl; maxmem = refl; own = λ a. refl; mems = refl })
      (λ n x e. refl) m (record o { tried = true; stage = Idle }) refl refl (λ y e. (o, there, refl)) none

  pub unpaged-still : (m : ℕ) (o : LaneMap) (pages : List ℕ) → get l.maps m ≡ Some o → loan_of l.loans m ≡ no_loan →
      AreLaid (unpaged m o pages l)
  unpaged-still m o pages there none =
      put (unpaged m o pages l) (record { script = refl; pages = refl; maxmem = refl; own = λ a. refl; mems = refl })
      (λ n x e. refl) m (record o { tried = true; stage = emptied pages }) refl refl (λ y e. (o, there, refl))
      (emptied-lies (unpaged m o pages l) m pages none)

  pub unload-still : (m : ℕ) (o : LaneMap) → get l.maps m ≡ Some o →
      AreLaid (unmapped o (unpaged m o (pages_of o.stage) (unlent m l)))
  unload-still m o there =
      one-changed l after (record {
        script = refl;
        pages = refl;
        maxmem = refl;
        own = own-forgotten (lost_by_forgetting l.loans m) l.memory;
        mems = refl;
      }) laid m
      (λ n off. kept-map l after n (λ k x e. refl) (ap (λ y. unwrap_or y no_loan) (cut-off l.loans m n off))
      (put-off l.maps m n new off))
      (λ y e. put-limits after (λ k x f. refl) m new (put-there l.maps m new) (o, there, refl))
      (subst (LiesIn after m) (sym (ap stage_in (put-there l.maps m new)))
      (emptied-lies after m (pages_of o.stage) (ap (λ y. unwrap_or y no_loan) (cut-there l.loans m))))
    where
      after : LaneState
      after = unmapped o (unpaged m o (pages_of o.stage) (unlent m l))

      new : LaneMap
      new = record o { tried = true; stage = emptied (pages_of o.stage) }

  -- the loads stay laid with other address spaces
  pub spaced-still : (s : ℕ → Space) → AreLaid (record l { spaces = s })
  spaced-still s =
      like (record l { spaces = s })
      (record { script = refl; pages = refl; maxmem = refl; own = λ a. refl; mems = refl }) (λ n x e. refl) refl refl

  pub back-still : (x : Return) (rest : List Return) (y : Option LaneMap) → get l.maps x.map ≡ y →
      ((o : LaneMap) → get l.maps x.map ≡ Some o → is_loaded o.stage ≡ false) →
      AreLaid (record (restaged x.map y (after_return x.map rest) l) { returns = rest })
  back-still x rest None e off =
      like (record l { returns = rest })
      (record { script = refl; pages = refl; maxmem = refl; own = λ a. refl; mems = refl }) (λ n o e. refl) refl refl
  back-still x rest (Some o) e off =
      let new : LaneMap = record o { stage = after_return x.map rest } in
      let after : LaneState = record l { maps = insert l.maps x.map new; returns = rest } in
      put after (record { script = refl; pages = refl; maxmem = refl; own = λ a. refl; mems = refl })
      (λ n o e. refl) x.map new refl refl (λ y f. (o, e, refl))
      (stage-lies after (returning x.map rest == 0) (no-loan x.map o e (off o e)))
    where
      stage-lies : (l' : LaneState) (b : Bool) → loan_of l'.loans x.map ≡ no_loan →
          LiesIn l' x.map (if b then Idle else Returning)
      stage-lies l' true none = none
      stage-lies l' false none = none

  -- ---- tags and maps
  module _ (stands : Stands l) where
    pub with_tag-still : (t : TagLimits) (done : Bool) → AreLaid (with_tag l.place t done l)
    with_tag-still t done =
        like (with_tag l.place t done l)
        (record { script = refl; pages = refl; maxmem = refl; own = λ a. refl; mems = refl })
        (keeps-put l stands (with_tag l.place t done l) l.place
        (record { limits = t; first_done = done; device = false }) refl
        (λ g e. new-tag l stands g e)) refl refl

    pub iommu_tag-still : (t : TagLimits) → AreLaid (with_device_tag t l)
    iommu_tag-still t =
        like (with_device_tag t l)
        (record { script = refl; pages = refl; maxmem = refl; own = λ a. refl; mems = refl })
        (keeps-put l stands (with_device_tag t l) l.place (record { limits = t; first_done = false; device = true })
        refl (λ g e. new-tag l stands g e)) refl refl

    pub untag-still : (t : ℕ) → has_maps l t ≡ false →
        AreLaid (record l { tags = remove l.tags t; spaces = with_space t no_space l.spaces })
    untag-still t b =
        like (record l { tags = remove l.tags t; spaces = with_space t no_space l.spaces })
        (record { script = refl; pages = refl; maxmem = refl; own = λ a. refl; mems = refl }) (untagged l t b) refl
        refl

    -- nothing was made yet at the place of the script
    none-here : loan_of l.loans l.place ≡ no_loan
    none-here = no-loan-in l.place Idle (ap stage_in (stands.no_map l.place (omega arith))) refl

    -- no memory was made yet at the place of the script
    no-memory-here : (t : ℕ) (y : LaneMemory) → get l.mems l.place ≡ Some y → HadTag l.place t
    no-memory-here t y e =
        let none : get l.mems l.place ≡ None = stands.no_memory l.place (omega arith) in absurd (cc)

    abbrev new-map : ℕ → Option ℕ → LaneMap
    new-map t zone = record { tag = t; zone = zone; tried = false; stage = Idle }

    pub created-still : (t : ℕ) (o : LaneTag) → get l.tags t ≡ Some o → o.device ≡ false → (z : ℕ) →
        AreLaid (with_tag t o.limits true (with_map t (Some z) l))
    created-still t o there plain z =
        put made (record { script = refl; pages = refl; maxmem = refl; own = λ a. refl; mems = refl })
        (keeps-put l stands made t (record { limits = o.limits; first_done = true; device = false }) refl
        (λ g e. ap (λ (x : LaneTag). says-in (Some x)) (found_one (get l.tags t) g o e there)
        ∙ (λ i. (o.limits, plain i))))
        l.place (new-map t (Some z)) refl refl (no-memory-here t) none-here
      where
        made : LaneState
        made = with_tag t o.limits true (with_map t (Some z) l)

    pub map-still : (t : ℕ) → AreLaid (with_map t None l)
    map-still t =
        put (with_map t None l) (record { script = refl; pages = refl; maxmem = refl; own = λ a. refl; mems = refl })
        (λ n x e. refl) l.place (new-map t None) refl refl (no-memory-here t) none-here

  pub unmap-still : (m : ℕ) → loan_of l.loans m ≡ no_loan → AreLaid (without_map m l)
  unmap-still m none =
      cut (without_map m l) (record { script = refl; pages = refl; maxmem = refl; own = λ a. refl; mems = refl })
      (λ n x e. refl) m refl refl none
