-- Each turn keeps its driver's invariant.
use Rattle.std.proofs.Common.{◌≡◌, ◌≢◌, ℕ, ◌+◌, ◌*◌, ◌%◌, ◌≤◌, ◌<◌, ◌==◌, ◌||◌, not, Bool, true, false, cond}
use Rattle.std.proofs.Common.{if◌then◌else◌, List}
use Rattle.std.proofs.Common.{[], ◌∷◌, Option, Some, None, is_some, refl, ap, sym, ◌∙◌, subst, arith, nat_le}
use Rattle.std.proofs.lemmas.Bool.{and_parts, false≢true}
use Rattle.std.proofs.lemmas.Bool.Decides.{nat_tests}
use Rattle.std.proofs.lemmas.Map.Views.{exact_unsigned_eq}
use Rattle.std.specs.Ordering.{nat_cmp, eq_by_cmp}
use Rattle.std.specs.Cmp.{unsigned_tied}
use Rattle.std.specs.List.{list_any}
use Rattle.std.specs.FinMap.{FinMap, get, insert, remove, contains_key, entries, find, get-entries}
use Rattle.busdma_machine.specs.declared.bounce.hold.HubCall.TheVariants as call
use Rattle.busdma_machine.specs.declared.bounce.hold.HubReply.{HubReply}
use Rattle.busdma_machine.specs.declared.bounce.hold.HubReply.TheVariants as reply
use Rattle.busdma_base.specs.declared.journals.journal.Side.{Side}
use Rattle.busdma_machine.specs.declared.tags.tag.TagLimits.{TagLimits}
use Rattle.busdma_machine.specs.Tags.Tag.{could_bounce}
use Rattle.busdma_rules.specs.Tags.MemFlags.{coherent}
use Rattle.lane_agreement.specs.View as view
use Rattle.busdma_rules.specs.Segments.Chunks.{need_of}
use Rattle.ideal_lane.specs.State.{LaneState, LaneTag, LaneMap, LaneMemory, LaneRing, Stage, Idle, Waiting, Loaded}
use Rattle.ideal_lane.specs.State.{Returning}
use Rattle.ideal_lane.specs.Asking.{Asking, Gives, Asks, call_of, by_reply}
use Rattle.ideal_lane.specs.Outcomes.{Outcome}
use Rattle.ideal_lane.specs.Rings.{fits_in}
use Rattle.ideal_lane.specs.Standing.{IsPageless, IsRing, StandsAt, StandsFrom, Stands, KeepsStanding}
use Rattle.ideal_lane.specs.Tags.{with_tag, tag}
use Rattle.ideal_lane.specs.Maps.{bounces, with_map}
use Rattle.ideal_lane.specs.Loads.{is_device, staged, unpaged, emptied}
use Rattle.ideal_lane.specs.Unloads.{pages_of, after_return}
use Rattle.ideal_lane.specs.Sends.{copied, is_too_big}
use Rattle.ideal_lane.specs.Turns.{Turned, waits, lane_step}
use Rattle.ideal_lane.proofs.Effects.{Advances, AtOnce, Attaches, Begins, Callback, Called, Calls, Creates, Ends}
use Rattle.ideal_lane.proofs.Effects.{Frees, Granted, Leaves, Loads, Makes, Maps, Overflows, Places, Refuses, Spaces}
use Rattle.ideal_lane.proofs.Effects.{Releases}
use Rattle.ideal_lane.proofs.Effects.{Same, Stays, Steps, Tags, Touched, Touches, Unloads, Unmaps, Untags, Vain, Waits}
use Rattle.ideal_lane.proofs.Effects.{Work, asked_in, asks, chunks, chunks_in, map_in, pages_in, place_in, there_in}
use Rattle.ideal_lane.proofs.Effects.{Declines, Device, Fetches, Keeps, Resends, Rings, waits_for, was_in}
use Rattle.std.proofs.Common.{◌&&◌}
use Rattle.ideal_lane.proofs.Stepping.{turn-steps}
use Rattle.ideal_lane.proofs.Lookups.{get_put, get_cut}
use Rattle.ideal_lane.proofs.Direct.{need-direct}
use Rattle.ideal_lane.proofs.Endings.{fitting, bounced_in, segments_of}
use Rattle.ideal_lane.proofs.Keeping.{pageless-pages}
use Rattle.busdma_machine.specs.declared.bounce.hold.HubCall.{HubCall}
use Rattle.busdma_machine.specs.declared.name.MapId.{MapId}
use Rattle.busdma_machine.specs.declared.machine.address.Pa.{Pa}

-- ---- what is found after a change

put-cases : {X : Type 0} (P : Type 0) (m : FinMap nat_cmp X) (k q : ℕ) (v x : X) → get (insert m k v) q ≡ Some x →
    (q ≡ k → v ≡ x → P) → (get m q ≡ Some x → P) → P
put-cases {X} P m k q v x e here there = by (q == k) refl (sym (get_put m k v q) ∙ e)
  where
    by : (b : Bool) → (q == k) ≡ b → cond b (Some v) (get m q) ≡ Some x → P
    by true t h = here (exact_unsigned_eq q k t) (let same : v ≡ x = cc in same)
    by false t h = there h

put-none : {X : Type 0} (m : FinMap nat_cmp X) (k q : ℕ) (v : X) → q ≢ k → get m q ≡ None → get (insert m k v) q ≡ None
put-none m k q v off none = get_put m k v q ∙ by (q == k) refl
  where
    by : (b : Bool) → (q == k) ≡ b → cond b (Some v) (get m q) ≡ None
    by true t = absurd (off (exact_unsigned_eq q k t))
    by false t = none

cut-found : {X : Type 0} (m : FinMap nat_cmp X) (k q : ℕ) (x : X) → get (remove m k) q ≡ Some x → get m q ≡ Some x
cut-found m k q x e = by (q == k) (sym (get_cut m k q) ∙ e)
  where
    by : (b : Bool) → cond b None (get m q) ≡ Some x → get m q ≡ Some x
    by true h = absurd (cc)
    by false h = h

cut-none : {X : Type 0} (m : FinMap nat_cmp X) (k q : ℕ) → get m q ≡ None → get (remove m k) q ≡ None
cut-none m k q none = get_cut m k q ∙ by (q == k)
  where
    by : (b : Bool) → cond b None (get m q) ≡ None
    by true = refl
    by false = none

same-value : {X : Type 0} {o : Option X} {x y : X} → o ≡ Some x → o ≡ Some y → x ≡ y
same-value e f = cc

-- a place that has a value is not one that has none
apart : {X : Type 0} (m : FinMap nat_cmp X) (k q : ℕ) (x : X) → get m k ≡ Some x → get m q ≡ None → q ≢ k
apart m k q x there none e = absurd (let f : get m q ≡ get m k = ap (get m) e in cc)

put-other : {X : Type 0} (m : FinMap nat_cmp X) (k q : ℕ) (v : X) → q ≢ k → get (insert m k v) q ≡ get m q
put-other m k q v off = get_put m k v q ∙ by (q == k) refl
  where
    by : (b : Bool) → (q == k) ≡ b → cond b (Some v) (get m q) ≡ get m q
    by true t = absurd (off (exact_unsigned_eq q k t))
    by false t = refl

put-here : {X : Type 0} (m : FinMap nat_cmp X) (k : ℕ) (v : X) → get (insert m k v) k ≡ Some v
put-here m k v = get_put m k v k ∙ by (k == k) refl
  where
    by : (b : Bool) → (k == k) ≡ b → cond b (Some v) (get m k) ≡ Some v
    by true t = refl
    by false t = absurd (let u : (k == k) ≡ true = grind (arith, nat_tests) in cc)

cut-other : {X : Type 0} (m : FinMap nat_cmp X) (k q : ℕ) → q ≢ k → get (remove m k) q ≡ get m q
cut-other m k q off = get_cut m k q ∙ by (q == k) refl
  where
    by : (b : Bool) → (q == k) ≡ b → cond b None (get m q) ≡ get m q
    by true t = absurd (off (exact_unsigned_eq q k t))
    by false t = refl

cut-here : {X : Type 0} (m : FinMap nat_cmp X) (k : ℕ) (x : X) → get (remove m k) k ≡ Some x → ⊥
cut-here m k x e = by (k == k) refl (sym (get_cut m k k) ∙ e)
  where
    by : (b : Bool) → (k == k) ≡ b → cond b None (get m k) ≡ Some x → ⊥
    by true t h = cc
    by false t h = absurd (let u : (k == k) ≡ true = grind (arith, nat_tests) in cc)

-- a value that is found passes no test that no entry passes
none-found : {X : Type 0} (test : ℕ × X → Bool) (es : List (ℕ × X)) (q : ℕ) (x : X) → list_any test es ≡ false →
    find nat_cmp q es ≡ Some x → test (q, x) ≡ false
none-found test [] q x none e = absurd (cc)
none-found {X} test (f ∷ es) q x none e =
    by (λ h g. none-found test es q x h g) (test f) refl none (eq_by_cmp nat_cmp q f.0) refl e
  where
    by : (list_any test es ≡ false → find nat_cmp q es ≡ Some x → test (q, x) ≡ false) → (b : Bool) → test f ≡ b →
        (b || list_any test es) ≡ false → (c : Bool) → eq_by_cmp nat_cmp q f.0 ≡ c →
        cond c (Some f.1) (find nat_cmp q es) ≡ Some x → test (q, x) ≡ false
    by rest true t h c d g = absurd (cc)
    by rest false t h true d g =
        let key : f.0 ≡ q = sym (exact_unsigned_eq q f.0 (sym (unsigned_tied q f.0) ∙ d)) in
        let value : f.1 ≡ x = cc in
        sym (λ i. test (key i, value i)) ∙ t
    by rest false t h false d g = rest h g

-- ---- changes of the tags, maps, memories and rings of a driver, which keep its invariant

-- a ring lies in a memory that is as it was, or is gone with its map
ring-in : {p : ℕ} {maps : FinMap nat_cmp LaneMap} {mems : FinMap nat_cmp LaneMemory} (q : ℕ)
    (others : FinMap nat_cmp LaneMap) (other : FinMap nat_cmp LaneMemory) (r : LaneRing) → p ≤ q →
    ((x : LaneMemory) → get other r.mem ≡ Some x → get mems r.mem ≡ Some x) →
    ((o : LaneMap) → get others r.mem ≡ Some o → contains_key other r.mem ≡ true) → IsRing p maps mems r →
    IsRing q others other r
ring-in q others other r le back there old = record {
  made = omega (arith, le, old.made);
  there = there;
  head = old.head;
  few = old.few;
  coherent = λ x e. old.coherent x (back x e);
  fits = λ x e. old.fits x (back x e);
}

module _ {p maxmem : ℕ} {tags : FinMap nat_cmp LaneTag} {maps : FinMap nat_cmp LaneMap}
    {mems : FinMap nat_cmp LaneMemory} {rings : FinMap nat_cmp LaneRing} where
  later : (q : ℕ) → p ≤ q → StandsFrom p maxmem tags maps mems rings → StandsFrom q maxmem tags maps mems rings
  later q le s = record {
    no_tag = λ k h. s.no_tag k (omega (arith, le, h));
    no_map = λ k h. s.no_map k (omega (arith, le, h));
    no_memory = λ k h. s.no_memory k (omega (arith, le, h));
    no_ring = λ k h. s.no_ring k (omega (arith, le, h));
    each = s.each;
    ring = λ k r e. ring-in q maps mems r le (λ x h. h) (s.ring k r e).there (s.ring k r e);
  }

  -- a map is at another stage
  stands-put : (m : ℕ) (o n : LaneMap) → get maps m ≡ Some o → n.tag ≡ o.tag → n.zone ≡ o.zone →
      (o.zone ≡ None → IsPageless n.stage) →
      StandsFrom p maxmem tags maps mems rings → StandsFrom p maxmem tags (insert maps m n) mems rings
  stands-put m o n found same_tag same_zone pageless s = record {
    no_tag = s.no_tag;
    no_map = λ k h. put-none maps m k n (apart maps m k o found (s.no_map k h)) (s.no_map k h);
    no_memory = s.no_memory;
    no_ring = s.no_ring;
    ring = λ k r e.
        let was : IsRing p maps mems r = s.ring k r e in
        ring-in p (insert maps m n) mems r (omega arith) (λ x h. h)
        (λ x f. put-cases (contains_key mems r.mem ≡ true) maps m r.mem n x f
        (λ at is. was.there o (ap (get maps) at ∙ found)) (was.there x)) was;
    each = λ k x e. put-cases (StandsAt maxmem tags mems k x) maps m k n x e
        (λ at is. subst (λ y. StandsAt maxmem tags mems k y) is
        (subst (λ j. StandsAt maxmem tags mems j n) (sym at) here)) (s.each k x);
  }
    where
      old : StandsAt maxmem tags mems m o
      old = s.each m o found

      here : StandsAt maxmem tags mems m n
      here = record {
        tag = old.tag;
        there = ap (get tags) same_tag ∙ old.there;
        memory = λ h. same_zone ∙ old.memory h;
        device = λ h. same_zone ∙ old.device h;
        direct = λ h. old.direct (sym same_zone ∙ h);
        pageless = λ h. pageless (sym same_zone ∙ h);
      }

  -- a map is gone
  stands-cut : (m : ℕ) → StandsFrom p maxmem tags maps mems rings → StandsFrom p maxmem tags (remove maps m) mems rings
  stands-cut m s = record {
    no_tag = s.no_tag;
    no_map = λ k h. cut-none maps m k (s.no_map k h);
    no_memory = s.no_memory;
    no_ring = s.no_ring;
    ring = λ k r e.
        ring-in p (remove maps m) mems r (omega arith) (λ x h. h)
        (λ x f. (s.ring k r e).there x (cut-found maps m r.mem x f)) (s.ring k r e);
    each = λ k x e. s.each k x (cut-found maps m k x e);
  }

  -- a tag has done its first allocation
  stands-done : (t : ℕ) (old new : LaneTag) → get tags t ≡ Some old → new.limits ≡ old.limits →
      new.device ≡ old.device → StandsFrom p maxmem tags maps mems rings → StandsFrom p maxmem (insert tags t new) maps
      mems rings
  stands-done t old new found same kind s = record {
    no_tag = λ k h. put-none tags t k new (apart tags t k old found (s.no_tag k h)) (s.no_tag k h);
    no_map = s.no_map;
    no_memory = s.no_memory;
    no_ring = s.no_ring;
    ring = s.ring;
    each = λ k x e. by k x (s.each k x e) (x.tag == t) refl;
  }
    where
      by : (k : ℕ) (x : LaneMap) → StandsAt maxmem tags mems k x → (b : Bool) → (x.tag == t) ≡ b →
          StandsAt maxmem (insert tags t new) mems k x
      by k x st true d =
          let at : x.tag ≡ t = exact_unsigned_eq x.tag t d in
          let is : Some st.tag ≡ Some old = sym st.there ∙ (ap (get tags) at ∙ found) in
          let tag_is : st.tag ≡ old = cc in
          record {
            tag = new;
            there = ap (get (insert tags t new)) at ∙ put-here tags t new;
            memory = st.memory;
            device = λ h. st.device (ap (λ (y : LaneTag). y.device) tag_is ∙ sym kind ∙ h);
            direct = λ h. ap (λ y. contains_key mems k || not (not new.device && could_bounce y maxmem)) (same
                ∙ ap (λ (y : LaneTag). y.limits) (sym tag_is))
                ∙ ap (λ d. contains_key mems k || not (not d && could_bounce st.tag.limits maxmem)) (kind
                ∙ ap (λ (y : LaneTag). y.device) (sym tag_is)) ∙ st.direct h;
            pageless = st.pageless;
          }
      by k x st false d = record {
        tag = st.tag;
        there =
            put-other tags t x.tag new (λ e. absurd
            (let u : (x.tag == t) ≡ true = rw e (grind (arith, nat_tests)) in cc)) ∙ st.there;
        memory = st.memory;
        device = st.device;
        direct = st.direct;
        pageless = st.pageless;
      }

  -- a tag without maps is gone
  stands-untagged : (t : ℕ) → list_any (λ e. e.1.tag == t) (entries maps) ≡ false →
      StandsFrom p maxmem tags maps mems rings → StandsFrom p maxmem (remove tags t) maps mems rings
  stands-untagged t none s = record {
    no_tag = λ k h. cut-none tags t k (s.no_tag k h);
    no_map = s.no_map;
    no_memory = s.no_memory;
    no_ring = s.no_ring;
    ring = s.ring;
    each = λ k x e.
        let st = s.each k x e in
        let other : (x.tag == t) ≡ false =
        none-found (λ f. f.1.tag == t) (entries maps) k x none (sym (get-entries maps k) ∙ e) in
        record {
          tag = st.tag;
          there =
              cut-other tags t x.tag (λ d. absurd
              (let u : (x.tag == t) ≡ true = rw d (grind (arith, nat_tests)) in cc))
              ∙ st.there;
          memory = st.memory;
          device = st.device;
          direct = st.direct;
          pageless = st.pageless;
        };
  }

  -- the head of a ring goes on
  stands-moved : (k : ℕ) (r : LaneRing) → get rings k ≡ Some r →
      StandsFrom p maxmem tags maps mems rings →
      StandsFrom p maxmem tags maps mems (insert rings k (record r { head = (r.head + 1) % r.slots }))
  stands-moved k r found s = record {
    no_tag = s.no_tag;
    no_map = s.no_map;
    no_memory = s.no_memory;
    no_ring = λ q h. put-none rings k q new (apart rings k q r found (s.no_ring q h)) (s.no_ring q h);
    each = s.each;
    ring = λ q x e. put-cases (IsRing p maps mems x) rings k q new x e (λ at is. subst (IsRing p maps mems) is here)
        (s.ring q x);
  }
    where
      new : LaneRing
      new = record r { head = (r.head + 1) % r.slots }

      here : IsRing p maps mems new
      here =
          let old : IsRing p maps mems r = s.ring k r found in
          let some : 0 < r.slots = omega (arith, old.head) in
          record {
            made = old.made;
            there = old.there;
            head = omega (arith, some);
            few = old.few;
            coherent = old.coherent;
            fits = old.fits;
          }

  -- a memory is gone with its map
  stands-unmade : (m : ℕ) → StandsFrom p maxmem tags maps mems rings →
      StandsFrom p maxmem tags (remove maps m) (remove mems m) rings
  stands-unmade m s = record {
    no_tag = s.no_tag;
    no_map = λ k h. cut-none maps m k (s.no_map k h);
    no_memory = λ k h. cut-none mems m k (s.no_memory k h);
    no_ring = s.no_ring;
    ring = λ k r e.
        ring-in p (remove maps m) (remove mems m) r (omega arith) (cut-found mems m r.mem)
        (λ x f.
        let off : r.mem ≢ m = (λ at. cut-here maps m x (sym (ap (get (remove maps m)) at) ∙ f)) in
        ap is_some (cut-other mems m r.mem off) ∙ (s.ring k r e).there x (cut-found maps m r.mem x f)) (s.ring k r e);
    each = λ k x e. by k x e (s.each k x (cut-found maps m k x e));
  }
    where
      by : (k : ℕ) (x : LaneMap) → get (remove maps m) k ≡ Some x → StandsAt maxmem tags mems k x →
          StandsAt maxmem tags (remove mems m) k x
      by k x e st =
          let off : k ≢ m = (λ at. cut-here maps m x (sym (ap (get (remove maps m)) at) ∙ e)) in
          let same : get (remove mems m) k ≡ get mems k = cut-other mems m k off in
          record {
            tag = st.tag;
            there = st.there;
            memory = λ h. st.memory (sym (ap is_some same) ∙ h);
            device = st.device;
            direct = λ h. ap (λ y. is_some y || not (bounces maxmem st.tag)) same ∙ st.direct h;
            pageless = st.pageless;
          }

-- ---- what is made at the place of the script

module _ (p maxmem : ℕ) (tags : FinMap nat_cmp LaneTag)
    (maps : FinMap nat_cmp LaneMap) (mems : FinMap nat_cmp LaneMemory) (rings : FinMap nat_cmp LaneRing)
    (s : StandsFrom p maxmem tags maps mems rings) where
  next-ring : (k : ℕ) (r : LaneRing) → get rings k ≡ Some r → IsRing (p + 1) maps mems r
  next-ring k r e = ring-in (p + 1) maps mems r (omega arith) (λ x h. h) (s.ring k r e).there (s.ring k r e)

  over : (k : ℕ) → p + 1 ≤ k → p ≤ k
  over k h = omega (arith, h)

  off-place : (k : ℕ) → p + 1 ≤ k → k ≢ p
  off-place k h e = absurd (omega (arith, h, e))

  -- a tag
  made-tag : (t : LaneTag) → StandsFrom (p + 1) maxmem (insert tags p t) maps mems rings
  made-tag t = record {
    no_tag = λ k h. put-none tags p k t (off-place k h) (s.no_tag k (over k h));
    no_map = λ k h. s.no_map k (over k h);
    no_memory = λ k h. s.no_memory k (over k h);
    no_ring = λ k h. s.no_ring k (over k h);
    ring = next-ring;
    each = λ k x e. let st = s.each k x e in record {
      tag = st.tag;
      there = put-other tags p x.tag t (apart-tag x st) ∙ st.there;
      memory = st.memory;
      device = st.device;
      direct = st.direct;
      pageless = st.pageless;
    };
  }
    where
      apart-tag : {k : ℕ} (x : LaneMap) → StandsAt maxmem tags mems k x → x.tag ≢ p
      apart-tag x st e = absurd (let f : get tags x.tag ≡ get tags p = ap (get tags) e in
          let g : get tags p ≡ None = s.no_tag p (omega arith) in cc)

  -- an idle map of a tag, with a zone, or of a tag that could not bounce
  made-map : (o : LaneMap) (t : LaneTag) → get tags o.tag ≡ Some t → o.stage ≡ Idle →
      (t.device ≡ true → o.zone ≡ None) → (o.zone ≡ None → bounces maxmem t ≡ false) →
      StandsFrom (p + 1) maxmem tags (insert maps p o) mems rings
  made-map o t tag idle device direct = record {
    no_tag = λ k h. s.no_tag k (over k h);
    no_map = λ k h. put-none maps p k o (off-place k h) (s.no_map k (over k h));
    no_memory = λ k h. s.no_memory k (over k h);
    no_ring = λ k h. s.no_ring k (over k h);
    ring = λ k r e.
        let was : IsRing p maps mems r = s.ring k r e in
        ring-in (p + 1) (insert maps p o) mems r (omega arith) (λ x h. h)
        (λ x f. put-cases (contains_key mems r.mem ≡ true) maps p r.mem o x f
        (λ at is. absurd (omega (arith, at, was.made))) (was.there x)) was;
    each = λ k x e. put-cases (StandsAt maxmem tags mems k x) maps p k o x e
        (λ at is. subst (λ y. StandsAt maxmem tags mems k y) is
        (subst (λ j. StandsAt maxmem tags mems j o) (sym at) here)) (s.each k x);
  }
    where
      or-true : (b : Bool) → (b || true) ≡ true
      or-true true = refl
      or-true false = refl

      none : get mems p ≡ None
      none = s.no_memory p (omega arith)

      here : StandsAt maxmem tags mems p o
      here = record {
        tag = t;
        there = tag;
        memory = λ h. absurd (let n : contains_key mems p ≡ false = ap is_some none in cc);
        device = device;
        direct = λ h. ap (λ b. is_some (get mems p) || not b) (direct h) ∙ or-true (is_some (get mems p));
        pageless = λ h. subst IsPageless (sym idle) tt;
      }

  -- a memory with its idle map
  made-memory : (o : LaneMap) (x : LaneMemory) (t : LaneTag) →
      get tags o.tag ≡ Some t → o.stage ≡ Idle → o.zone ≡ None →
      StandsFrom (p + 1) maxmem tags (insert maps p o) (insert mems p x) rings
  made-memory o x t tag idle zone = record {
    no_tag = λ k h. s.no_tag k (over k h);
    no_map = λ k h. put-none maps p k o (off-place k h) (s.no_map k (over k h));
    no_memory = λ k h. put-none mems p k x (off-place k h) (s.no_memory k (over k h));
    no_ring = λ k h. s.no_ring k (over k h);
    ring = λ k r e.
        let was : IsRing p maps mems r = s.ring k r e in
        let off : r.mem ≢ p = (λ at. absurd (omega (arith, at, was.made))) in
        ring-in (p + 1) (insert maps p o) (insert mems p x) r (omega arith)
        (λ y f. sym (put-other mems p r.mem x off) ∙ f)
        (λ y f. put-cases (contains_key (insert mems p x) r.mem ≡ true) maps p r.mem o y f (λ at is. absurd (off at))
        (λ g. ap is_some (put-other mems p r.mem x off) ∙ was.there y g)) was;
    each = λ k y e. put-cases (StandsAt maxmem tags (insert mems p x) k y) maps p k o y e
        (λ at is. subst (λ z. StandsAt maxmem tags (insert mems p x) k z) is
        (subst (λ j. StandsAt maxmem tags (insert mems p x) j o) (sym at) here))
        (λ f. there k y f (s.each k y f));
  }
    where
      here : StandsAt maxmem tags (insert mems p x) p o
      here = record {
        tag = t;
        there = tag;
        memory = λ h. zone;
        device = λ h. zone;
        direct = λ h. ap (λ b. is_some b || not (bounces maxmem t)) (put-here mems p x);
        pageless = λ h. subst IsPageless (sym idle) tt;
      }

      there : (k : ℕ) (y : LaneMap) → get maps k ≡ Some y → StandsAt maxmem tags mems k y →
          StandsAt maxmem tags (insert mems p x) k y
      there k y f st =
          let off : k ≢ p =
          (λ at. absurd (let g : get maps k ≡ get maps p = ap (get maps) at in
          let n : get maps p ≡ None = s.no_map p (omega arith) in cc)) in
          let same : get (insert mems p x) k ≡ get mems k = put-other mems p k x off in
          record {
            tag = st.tag;
            there = st.there;
            memory = λ h. st.memory (sym (ap is_some same) ∙ h);
            device = st.device;
            direct = λ h. ap (λ b. is_some b || not (bounces maxmem st.tag)) same ∙ st.direct h;
            pageless = st.pageless;
          }

  -- a ring in a memory that it fits into
  made-ring : (mem slots : ℕ) (x : LaneMemory) → get mems mem ≡ Some x → fits_in slots x ≡ true →
      StandsFrom (p + 1) maxmem tags maps mems (insert rings p (record { mem = mem; slots = slots; head = 0 }))
  made-ring mem slots x there fit = record {
    no_tag = λ k h. s.no_tag k (over k h);
    no_map = λ k h. s.no_map k (over k h);
    no_memory = λ k h. s.no_memory k (over k h);
    no_ring = λ k h. put-none rings p k new (off-place k h) (s.no_ring k (over k h));
    each = s.each;
    ring = λ k r e. put-cases (IsRing (p + 1) maps mems r) rings p k new r e
        (λ at is. subst (IsRing (p + 1) maps mems) is here) (next-ring k r);
  }
    where
      new : LaneRing
      new = record { mem = mem; slots = slots; head = 0 }

      before : (b : Bool) → nat_le p mem ≡ b → mem < p
      before true e =
          let late : p ≤ mem = grind (arith, nat_tests) in
          let none : get mems mem ≡ None = s.no_memory mem late in absurd (cc)
      before false e = grind (arith, nat_tests)

      here : IsRing (p + 1) maps mems new
      here =
          let of_x = and_parts x.coherent (nat_le 1 slots && (nat_le slots 256 && nat_le (16 * slots) x.len)) fit in
          let of_slots = and_parts (nat_le 1 slots) (nat_le slots 256 && nat_le (16 * slots) x.len) of_x.1 in
          let of_len = and_parts (nat_le slots 256) (nat_le (16 * slots) x.len) of_slots.1 in
          let some : 1 ≤ slots = grind (arith, nat_tests, of_slots.0) in
          let few : slots ≤ 256 = grind (arith, nat_tests, of_len.0) in
          let fits : 16 * slots ≤ x.len = grind (arith, nat_tests, of_len.1) in
          record {
            made = omega (arith, before (nat_le p mem) refl);
            there = λ o e. ap is_some there;
            head = omega (arith, some);
            few = few;
            coherent = λ y e. subst (λ z. LaneMemory.coherent z ≡ true) (same-value there e) of_x.0;
            fits = λ y e. subst (λ z. 16 * slots ≤ LaneMemory.len z) (same-value there e) fits;
          }

-- ---- operations

-- nothing was made at the place p or later, and the script is at the place q
abbrev pub StandsIn : ℕ → ℕ → LaneState → Type 0
StandsIn p q n = StandsFrom p n.maxmem n.tags n.maps n.mems n.rings × (n.place ≡ q)

module _ (p : ℕ) (l : LaneState) (s : StandsFrom p l.maxmem l.tags l.maps l.mems l.rings) where
  touches-stand : {d : Work} {x : Outcome} → Touches l d x → StandsIn p l.place x.lane
  touches-stand (Same a q u) = (s, refl)
  touches-stand (Fetches k f) = (stands-moved k f.r f.ring s, refl)
  touches-stand _ = (s, refl)

  -- the map of a load is at another stage
  in-staged : (m : ℕ) (o : LaneMap) (g : Stage) → get l.maps m ≡ Some o →
      (o.zone ≡ None → IsPageless g) → StandsIn p l.place (staged m o g l)
  in-staged m o g e pageless = (stands-put m o (record o { tried = true; stage = g }) e refl refl pageless s, refl)

  in-unpaged : (m : ℕ) (o : LaneMap) (pages : List ℕ) → get l.maps m ≡ Some o → (o.zone ≡ None → pages ≡ []) →
      StandsIn p l.place (unpaged m o pages l)
  in-unpaged m o pages e none =
      in-staged m o (emptied pages) e (λ z. subst (λ ps. IsPageless (emptied ps)) (sym (none z)) tt)

  -- the map of a load that needs pages has a zone, so a load of a map without one ends with no pages
  zoned : {d : Work} (b : Begins l d) → is_device l b.o ≡ false → (need_of (chunks b) == 0) ≡ false →
      b.o.zone ≡ None → ⊥
  zoned b plain some none =
      let zero : need_of (chunks b) ≡ 0 = need-direct l b.m b.o (asks b).entries (s.each b.m b.o b.there) plain none in
      let u : (need_of (chunks b) == 0) ≡ true = rw zero refl in cc

  pageless-in : {d : Work} {c : Option HubCall} {r : HubReply} (k : Ends l d c r) → (was_in k).zone ≡ None →
      pages_in k ≡ []
  pageless-in (AtOnce b plain none) zone = refl
  pageless-in (Granted b plain some pages) zone = absurd (zoned b plain some zone)
  pageless-in (Device b device first spaces taken) zone = refl
  pageless-in (Called m pages o v there waits) zone =
      absurd (subst IsPageless waits ((s.each m.made_at o there).pageless zone))

  loads-stand : {d : Work} {c : Option HubCall} {r : HubReply} (k : Ends l d c r) →
      StandsIn p l.place (fitting l (map_in k) (was_in k) (place_in k) (asked_in k) (chunks_in k) (pages_in k)).lane
  loads-stand k =
      in-staged (map_in k) (was_in k)
      (Loaded (bounced_in l (map_in k) (was_in k) (place_in k) (asked_in k) (chunks_in k) (pages_in k))
      (segments_of l (map_in k) (was_in k) (place_in k) (asked_in k) (chunks_in k) (pages_in k)) (pages_in k))
      (there_in k) (pageless-in k)

  overflows-stand : {d : Work} {c : Option HubCall} {r : HubReply} (k : Ends l d c r) →
      StandsIn p l.place (unpaged (map_in k) (was_in k) (pages_in k) l)
  overflows-stand k = in-unpaged (map_in k) (was_in k) (pages_in k) (there_in k) (pageless-in k)

-- ---- effects that make something at the place of the script

module _ (l : LaneState) (s : Stands l) where
  next : StandsIn (l.place + 1) l.place l
  next = (later (l.place + 1) (omega arith) s, refl)

  in-tag : (t : TagLimits) (first_done : Bool) → StandsIn (l.place + 1) l.place (with_tag l.place t first_done l)
  in-tag t first_done = (
    made-tag l.place l.maxmem l.tags l.maps l.mems l.rings s
        (record { limits = t; first_done = first_done; device = false }),
    refl,
  )

  in-map : (t : ℕ) (g : LaneTag) → get l.tags t ≡ Some g → (zone : Option ℕ) → (g.device ≡ true → zone ≡ None) →
      (zone ≡ None → bounces l.maxmem g ≡ false) →
      StandsIn (l.place + 1) l.place (with_map t zone l)
  in-map t g e zone device direct = (
    made-map l.place l.maxmem l.tags l.maps l.mems l.rings s
        (record { tag = t; zone = zone; tried = false; stage = Idle }) g e refl device direct,
    refl,
  )

  -- a tag whose loads could bounce is no IOMMU tag
  plain : (g : LaneTag) → bounces l.maxmem g ≡ true → g.device ≡ false
  plain g b = by g.device (and_parts (not g.device) (could_bounce g.limits l.maxmem) b).0
    where
      by : (d : Bool) → not d ≡ true → d ≡ false
      by true h = sym h
      by false h = refl

  makes-stand : {d : Work} {c : Option HubCall} {r : HubReply} {x : Outcome} → Makes l d c r x →
      StandsIn (l.place + 1) l.place x.lane
  makes-stand (Touched t) = touches-stand (l.place + 1) l next.0 t
  makes-stand (Tags name parent limits t n) = in-tag t false
  makes-stand (Attaches name parent limits t n b g e) = in-tag t true
  makes-stand (Spaces name limits t new) = (
    made-tag l.place l.maxmem l.tags l.maps l.mems l.rings s (record { limits = t; first_done = false; device = true }),
    refl,
  )
  makes-stand (Untags t none) = (stands-untagged t none next.0, refl)
  makes-stand (Maps name t g e b) = in-map t g e None (λ h. refl) (λ h. b)
  makes-stand (Creates name t g e b n m) = (
    stands-done t g (record { limits = g.limits; first_done = true; device = false }) e refl (sym (plain g b))
        (in-map t g e (Some n.zone.0) (λ h. absurd (false≢true (sym (plain g b) ∙ h))) (λ h. absurd (cc))).0,
    refl,
  )
  makes-stand (Unmaps m o e i) = (stands-cut m next.0, refl)
  makes-stand (Places name t flags g e first count) = (
    made-memory l.place l.maxmem l.tags l.maps l.mems l.rings s
        (record { tag = t; zone = None; tried = false; stage = Idle })
        (record { tag = t; first = first.0; count = count; len = g.limits.maxsize; coherent = coherent flags }) g e
        refl refl,
    refl,
  )
  makes-stand (Frees m x e o f i) = (stands-unmade m next.0, refl)
  makes-stand (Refuses b over e) = in-staged (l.place + 1) l next.0 b.m b.o Idle b.there (λ h. tt)
  makes-stand (Waits b plain some have) =
      in-staged (l.place + 1) l next.0 b.m b.o (Waiting (waits_for b)) b.there
      (zoned (l.place + 1) l next.0 b plain some)
  makes-stand (Loads k e) = loads-stand (l.place + 1) l next.0 k
  makes-stand (Overflows k e) = overflows-stand (l.place + 1) l next.0 k
  makes-stand (Unloads m o e i) =
      in-unpaged (l.place + 1) l next.0 m o (pages_of o.stage) e
      (λ z. pageless-pages o.stage ((s.each m o e).pageless z))
  makes-stand (Rings name mem slots x there fit) =
      (made-ring l.place l.maxmem l.tags l.maps l.mems l.rings s mem slots x there fit, refl)
  makes-stand _ = (next.0, refl)

  -- a load with too many segments makes nothing
  big-stand : {d : Work} {c : Option HubCall} {r : HubReply} {x : Outcome} → Makes l d c r x →
      is_too_big x.answer ≡ true → StandsIn l.place l.place x.lane
  big-stand (Touched t) big = touches-stand l.place l s t
  big-stand (Vain v a q) big = (s, refl)
  big-stand (Refuses b over e) big = in-staged l.place l s b.m b.o Idle b.there (λ h. tt)
  big-stand (Overflows k e) big = overflows-stand l.place l s k
  big-stand _ big = absurd (cc)

  -- a callback makes nothing
  called-stand : {n m : MapId} {pages : List Pa} {x : Outcome} →
      Makes l (Callback n) (Some call.TakeCallback) (reply.Called m pages) x → StandsIn l.place l.place x.lane
  called-stand (Vain v a q) = (s, refl)
  called-stand (Refuses b over e) = elim over [ ]
  called-stand (Loads k e) = loads-stand l.place l s k
  called-stand (Overflows k e) = overflows-stand l.place l s k

-- ---- turns

settled : {q : ℕ} (n : LaneState) → StandsIn q q n → Stands n
settled n h = subst (λ p. StandsFrom p n.maxmem n.tags n.maps n.mems n.rings) (sym h.1) h.0

module _ (l : LaneState) (s : Stands l) where
  bare : (b : Bool) → IsPageless (if b then Idle else Returning)
  bare true = tt
  bare false = tt

  steps-stand : {d : Side} {c : Option HubCall} {r : HubReply} {t : Turned} → Steps l d c r t → Stands t.lane
  steps-stand (Stays t is) = s
  steps-stand (Advances o at free m) = (makes-stand l s m).0
  steps-stand (Keeps {x = x} o at free d is big held m) = settled x.lane (big-stand l s m big)
  steps-stand (Declines d now x declined) = (next l s).0
  steps-stand (Resends {x = x} d now k untold m) = (makes-stand (copied d l) s m).0
  steps-stand (Leaves {x = x} q rest e t) =
      let h = touches-stand l.place l s t in
      subst (λ p. StandsFrom p x.lane.maxmem x.lane.tags x.lane.maps x.lane.mems x.lane.rings) (sym h.1) h.0
  steps-stand (Releases q rest e None there) = s
  steps-stand (Releases q rest e (Some o) there) =
      stands-put q.map o (record o { stage = after_return q.map rest }) there refl refl
      (λ zone. bare (view.returning q.map rest == 0)) s
  steps-stand (Calls {x = x} m pages k) = settled x.lane (called-stand l s k)

pub turn-stands : (l : LaneState) (d : Side) → Stands l → KeepsStanding (lane_step l d)
turn-stands l d s = by (lane_step l d) (turn-steps l d)
  where
    by : (x : Asking Turned) → ((r : HubReply) → Steps l d (call_of x) r (by_reply x r)) → KeepsStanding x
    by (Gives t) h = steps-stand l s (h reply.Nothing)
    by (Asks c k) h = λ r. steps-stand l s (h r)
