-- The wire after a step: pages and memories came with their bytes and left with theirs, and bytes of the driver were
-- copied to others, or none changed.
use Rattle.std.proofs.Common.{◌≡◌, ◌≢◌, ◌⊎◌, inl, inr, ℕ, zero, suc, ◌+◌, ◌*◌, ◌/◌, ◌<◌, ◌≤◌, Bool, true, false, List}
use Rattle.std.proofs.Common.{[]}
use Rattle.std.proofs.Common.{◌∷◌, map, Option, Some, None, subst}
use Rattle.std.proofs.Common.{is_some, slice_get, nat_le, nat_lt, refl, sym, ap, ◌∙◌, arith}
use mathlib.Core.Logic.{∥∥₁_elim}
use Rattle.std.specs.Prelude.{IsSome}
use Rattle.std.proofs.Props.{props}
use Rattle.std.proofs.lemmas.Bool.{and_parts, false≢true, leb-true, ltb-true}
use Rattle.std.proofs.lemmas.Option.{slice_get-map}
use Rattle.std.specs.Ordering.{nat_cmp}
use Rattle.std.specs.FinMap.{FinMap, get}
use Rattle.std.specs.Option.{option_map}
use Rattle.busdma_machine.specs.Bounce.MemoryRuns.{in_run}
use Rattle.busdma_machine.specs.Machine.Page.{FrameBytes}
use Rattle.busdma_machine.specs.Machine.PageList.{page_address, page_addresses}
use Rattle.busdma_base.specs.Scenarios.PageRuns.{is_own}
use Rattle.busdma_machine.specs.Machine.Wire.{Wire, put, with_bytes_of}
use Rattle.loan_table.specs.Table.{AreIn}
use Rattle.phys_memory.specs.Memory.{wire}
use Rattle.ideal_lane.specs.IdealMemory.{Known}
use Rattle.ideal_lane.specs.State.{LaneState}
use Rattle.ideal_lane.specs.Unloads.{pages_of}
use Rattle.ideal_wire.specs.Apart.{HoldsPage, IsApart}
use Rattle.ideal_wire.specs.Laid.{AreLaid, IsOwnByte, OfMemory, OfPages}
use Rattle.ideal_wire.specs.Traces.{is_in_pages, stage_at}
use Rattle.ideal_wire.specs.WireStep.{BringsKnown, Follows}
use Rattle.ideal_wire.proofs.Faithful.Lent.{any_found}
use Rattle.lane_state.specs.declared.holdings.Holdings.{Holdings}
use Rattle.lane_state.specs.Changes.{KeepsBesideMemory, KeepsBytes, KeepsBytesHeld, KeepsCopied, KeepsState}
use Rattle.lane_state.specs.Changes.{KeepsWhatStays}
use Rattle.lane_state.specs.Held.{content_of, devices_of}
use Rattle.lane_state.specs.Ideal.{ideal_of}
use Rattle.lane_state.specs.Wire.{wire_of}
use Rattle.lane_state.proofs.ChangeLaws.{covered-alike, put-alike, put-apart}
use Rattle.lane_state.proofs.Keeping.{told-some}
use Rattle.lane_state.proofs.Lying.{own-view, page-mine, pages-same}
use Rattle.lane_state.proofs.Views.{view-alike}

pub stays-all : (h k : Holdings) → KeepsBytes h k → KeepsWhatStays h k
stays-all h k s = record { own = s.own; pages = λ m. inl (s.pages m) }

pub stays-held : (h k : Holdings) → KeepsBytesHeld h k → KeepsWhatStays h k
stays-held h k s = record {
  own = s.own;
  pages = λ m. (elim (s.pages m) [ inl e ↦ inl e | inr e ↦ inr (inr e) ]);
}

-- if the driver stays as it is, no memory comes or goes
pub beside-same : (h k : Holdings) → KeepsState h k → KeepsBesideMemory h k
beside-same h k s = record {
  own = λ a before after. ap (λ w. w a) s.bytes.own;
  known = λ a v none is. absurd (none-some v (sym none ∙ ap (λ l. l.memory a) (sym s.ideal) ∙ is));
  pages = s.bytes.pages;
}
  where
    none-some : (v : ℕ) → None ≡ Some (Known v) → ⊥
    none-some v e = absurd (cc)

-- a map holds the page of an address
record Holding (h : Holdings) (m a : ℕ) : Type 0 where
  place : ℕ
  page : ℕ
  holds : HoldsPage (ideal_of h) m place page
  inside : in_run page 1 a ≡ true
  is : page ≡ 4096 * (a / 4096)

holding : (h : Holdings) → AreLaid (ideal_of h) → IsApart (ideal_of h) → (m a : ℕ) →
    is_in_pages (pages_of (stage_at (ideal_of h) m)) a ≡ true → Holding h m a
holding h laid apart m a inside =
    let l = ideal_of h in
    let p = any_found (λ (q : ℕ). in_run q 1 a) (pages_of (stage_at l m)) inside in
    let same = pages-same l laid apart h.maps.map refl h.unlent m in
    let parts = and_parts (nat_le p.item a) (nat_lt a (p.item + 4096 * 1)) p.passes in
    let low : p.item ≤ a = leb-true p.item a parts.0 in
    let high : a < p.item + 4096 * 1 = ltb-true a (p.item + 4096 * 1) parts.1 in
    let whole = found-address (devices_of h.maps.map m).pages p.place p.item
    (ap (λ ps. slice_get ps p.place) same ∙ p.found) in
    record {
      place = p.place;
      page = p.item;
      holds = p.found;
      inside = p.passes;
      is = omega (arith, low, high, whole.1);
    }
  where
    found-address : (ps : List FrameBytes) (i x : ℕ) → slice_get (page_addresses ps) i ≡ Some x →
        (f : ℕ) × (x ≡ 4096 * f)
    found-address ps i x e = by (slice_get ps i) (sym (slice_get-map page_address ps i) ∙ e)
      where
        by : (o : Option FrameBytes) → option_map page_address o ≡ Some x → (f : ℕ) × (x ≡ 4096 * f)
        by None e = absurd (cc)
        by (Some p) e = (p.frame, (let there : 4096 * p.frame ≡ x = cc in sym there))

-- the bytes in a page that a map holds are given by the pages of that map
held-view : (h : Holdings) → AreLaid (ideal_of h) → IsApart (ideal_of h) → (m a : ℕ) →
    is_in_pages (pages_of (stage_at (ideal_of h) m)) a ≡ true →
    wire_of h a ≡ with_bytes_of (devices_of h.maps.map m).pages (wire h.memory.memory) a
held-view h laid apart m a inside =
    let p = holding h laid apart m a inside in
    view-alike h.maps.map m (wire h.memory.memory) a
    (page-mine (ideal_of h) laid apart h.maps.map refl h.unlent m p.place p.page a p.holds p.is)

-- the bytes in a page that a map holds do not depend on the bytes elsewhere
in-pages : (h : Holdings) → AreLaid (ideal_of h) → IsApart (ideal_of h) → (m a : ℕ) →
    is_in_pages (pages_of (stage_at (ideal_of h) m)) a ≡ true → (u w : Wire) →
    with_bytes_of (devices_of h.maps.map m).pages u a ≡ with_bytes_of (devices_of h.maps.map m).pages w a
in-pages h laid apart m a inside u w =
    let p = holding h laid apart m a inside in
    let is = p.is in
    let x = told-some page_address (slice_get (devices_of h.maps.map m).pages p.place) p.page
    (sym (slice_get-map page_address (devices_of h.maps.map m).pages p.place)
    ∙ ap (λ ps. slice_get ps p.place) (pages-same (ideal_of h) laid apart h.maps.map refl h.unlent m) ∙ p.holds) in
    let at : 4096 * x.0.frame ≡ p.page = x.2 in
    let frame : a / 4096 ≡ x.0.frame = omega (arith, at, is) in
    covered-alike (devices_of h.maps.map m).pages p.place x.0 u w a x.1 frame

no-page : (h : Holdings) → AreLaid (ideal_of h) → IsApart (ideal_of h) → (m a : ℕ) →
    (devices_of h.maps.map m).pages ≡ [] → is_in_pages (pages_of (stage_at (ideal_of h) m)) a ≡ false
no-page h laid apart m a none =
    ap (λ ps. is_in_pages ps a)
    (sym (pages-same (ideal_of h) laid apart h.maps.map refl h.unlent m) ∙ ap page_addresses none)

-- a byte of the pages and memories of one driver is one of those of another that has the same
own-too : (l m : LaneState) → m.pages ≡ l.pages → m.mems ≡ l.mems → (a : ℕ) → IsOwnByte m a → IsOwnByte l a
own-too l m pages mems a (OfPages is) = OfPages (ap (λ ps. is_own ps a) (sym pages) ∙ is)
own-too l m pages mems a (OfMemory k x there inside) = OfMemory k x (ap (λ ms. get ms k) (sym mems) ∙ there) inside

-- no byte comes to a driver that keeps its pages and memories
pub none-comes : (l m : LaneState) → AreLaid l → AreLaid m → m.pages ≡ l.pages → m.mems ≡ l.mems → (a : ℕ) →
    is_some (m.memory a) ≡ true → is_some (l.memory a) ≡ true
none-comes l m laid laid' pages mems a own =
    let one : IsProp (is_some (l.memory a) ≡ true) = hlevel (props) in
    ∥∥₁_elim (laid'.only a own) one (λ is. laid.owned a (own-too l m pages mems a is))

pub none-known : (l m : LaneState) → AreLaid l → AreLaid m → m.pages ≡ l.pages → m.mems ≡ l.mems → (w : Wire) →
    BringsKnown l.memory m.memory w
none-known l m laid laid' pages mems w a v none is =
    let there : is_some (l.memory a) ≡ true = none-comes l m laid laid' pages mems a (ap is_some is) in
    absurd (false≢true (sym (ap is_some none) ∙ there))

-- a byte in the table is the driver's
some-content : (o : Option Bool) (v : ℕ) → IsSome o → is_some (content_of o v) ≡ true
some-content None v there = absurd (cc)
some-content (Some known) v there = refl

is-own : (h : Holdings) (a : ℕ) → IsSome (get h.loans.bytes a) → is_some ((ideal_of h).memory a) ≡ true
is-own h a there = some-content (get h.loans.bytes a) _ there

in-at : (bytes : FinMap nat_cmp Bool) (pas : List ℕ) (i b : ℕ) → AreIn bytes pas → slice_get pas i ≡ Some b →
    IsSome (get bytes b)
in-at bytes [] i b there at = absurd (cc)
in-at bytes (a ∷ pas) zero b there at = let same : a ≡ b = cc in subst (λ c. IsSome (get bytes c)) same there.0
in-at bytes (a ∷ pas) (suc i) b there at = in-at bytes pas i b there.1 at

-- a byte in a page of a map is none of the driver's
page-unowned : (h : Holdings) → AreLaid (ideal_of h) → IsApart (ideal_of h) → (m a : ℕ) →
    is_in_pages (pages_of (stage_at (ideal_of h) m)) a ≡ true → is_some ((ideal_of h).memory a) ≡ false
page-unowned h laid apart m a inside =
    let p = holding h laid apart m a inside in
    apart.away m p.place p.page a p.holds p.inside

module _ (h k : Holdings) (laid : AreLaid (ideal_of h)) (apart : IsApart (ideal_of h)) (laid' : AreLaid (ideal_of k))
    (apart' : IsApart (ideal_of k)) where
  -- a byte of the driver's own has on the wire the value that its frame has
  own-stands : (a : ℕ) → is_some ((ideal_of k).memory a) ≡ true → wire_of k a ≡ wire k.memory.memory a
  own-stands a after = own-view (ideal_of k) laid' apart' k.maps.map refl k.unlent (wire k.memory.memory) a after

  own-stood : (a : ℕ) → is_some ((ideal_of h).memory a) ≡ true → wire_of h a ≡ wire h.memory.memory a
  own-stood a before = own-view (ideal_of h) laid apart h.maps.map refl h.unlent (wire h.memory.memory) a before

  -- if the pages of a map stay, their bytes stay
  paged : (m a : ℕ) → (devices_of k.maps.map m).pages ≡ (devices_of h.maps.map m).pages →
      is_in_pages (pages_of (stage_at (ideal_of h) m)) a ≡ true →
      is_in_pages (pages_of (stage_at (ideal_of k) m)) a ≡ true → wire_of k a ≡ wire_of h a
  paged m a same before after =
      held-view k laid' apart' m a after
      ∙ ap (λ ps. with_bytes_of ps (wire k.memory.memory) a) same
      ∙ in-pages h laid apart m a before (wire k.memory.memory) (wire h.memory.memory)
      ∙ sym (held-view h laid apart m a before)

  -- the bytes in pages of a map stay if the map has pages before and after
  page : (m a : ℕ) → ((devices_of k.maps.map m).pages ≡ (devices_of h.maps.map m).pages)
      ⊎ (((devices_of h.maps.map m).pages ≡ []) ⊎ ((devices_of k.maps.map m).pages ≡ [])) →
      is_in_pages (pages_of (stage_at (ideal_of h) m)) a ≡ true →
      is_in_pages (pages_of (stage_at (ideal_of k) m)) a ≡ true → wire_of k a ≡ wire_of h a
  page m a (inl same) before after = paged m a same before after
  page m a (inr (inl none)) before after =
      let off = no-page h laid apart m a none in absurd (cc)
  page m a (inr (inr none)) before after =
      let off = no-page k laid' apart' m a none in absurd (cc)

  module _ (keeps : KeepsWhatStays h k) (pages : (ideal_of k).pages ≡ (ideal_of h).pages)
      (mems : (ideal_of k).mems ≡ (ideal_of h).mems) where
    pub follows : Follows (ideal_of h) (ideal_of k) (wire_of h) (wire_of k)
    follows = record {
      own = λ a before after. own-stands a after ∙ ap (λ w. w a) keeps.own ∙ sym (own-stood a before);
      pages = λ m a before after. page m a (keeps.pages m) before after;
      known = none-known (ideal_of h) (ideal_of k) laid laid' pages mems (wire_of k);
    }

  -- if bytes of the driver were copied to others
  module _ (from to : List ℕ) (keeps : KeepsCopied from to h k) (pages : (ideal_of k).pages ≡ (ideal_of h).pages)
      (mems : (ideal_of k).mems ≡ (ideal_of h).mems) where
    pub follows-copied : Follows (ideal_of h) (ideal_of k) (put to (map (wire_of h) from) (wire_of h)) (wire_of k)
    follows-copied = record {
      own = λ a before after. own-stands a after ∙ ap (λ w. w a) keeps.own
          ∙ put-alike to (map (wire h.memory.memory) from) (wire h.memory.memory) (wire_of h) a
          (sym (own-stood a before))
          ∙ ap (λ vs. put to vs (wire_of h) a) (same-bytes from keeps.own_from);
      pages = λ m a before after. page m a (keeps.pages m) before after
          ∙ sym (put-apart to (map (wire_of h) from) (wire_of h) a (apart-from to keeps.own_to m a before));
      known = none-known (ideal_of h) (ideal_of k) laid laid' pages mems (wire_of k);
    }
      where
        same-bytes : (pas : List ℕ) → AreIn h.loans.bytes pas → map (wire h.memory.memory) pas ≡ map (wire_of h) pas
        same-bytes [] there = refl
        same-bytes (a ∷ pas) there = λ i. sym (own-stood a (is-own h a there.0)) i ∷ same-bytes pas there.1 i

        apart-from : (pas : List ℕ) → AreIn h.loans.bytes pas → (m a : ℕ) →
            is_in_pages (pages_of (stage_at (ideal_of h) m)) a ≡ true → (i b : ℕ) → slice_get pas i ≡ Some b → a ≢ b
        apart-from pas there m a inside i b at same =
            let own : is_some ((ideal_of h).memory a) ≡ true =
            subst (λ c. is_some ((ideal_of h).memory c) ≡ true) (sym same)
            (is-own h b (in-at h.loans.bytes pas i b there at)) in
            false≢true (sym (page-unowned h laid apart m a inside) ∙ own)

  -- if a memory came or went
  pub follows-memory : KeepsBesideMemory h k → Follows (ideal_of h) (ideal_of k) (wire_of h) (wire_of k)
  follows-memory keeps = record {
    own = λ a before after. own-stands a after ∙ keeps.own a before after ∙ sym (own-stood a before);
    pages = λ m a before after. paged m a (keeps.pages m) before after;
    known = λ a v none is. own-stands a (ap is_some is) ∙ keeps.known a v none is;
  }
