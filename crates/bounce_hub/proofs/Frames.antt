-- The frames of memories.
use Rattle.std.proofs.Common.{◌≡◌, ℕ, zero, suc, ◌+◌, ◌*◌, ◌<◌, ◌≤◌, Bool, true, false, cond, not, List, [], ◌∷◌, ◌++◌}
use Rattle.std.proofs.Common.{length, get_or, refl, sym, ap, ◌∙◌, subst, arith, if◌then◌else◌, ◌==◌, nat_lt, Option}
use Rattle.std.proofs.Common.{Some, None, ne_eqb, inl, inr}
use Rattle.std.specs.List.{count_by, sum_by, filter}
use Rattle.std.specs.Prelude.{option_map}
use Rattle.std.proofs.lemmas.Bool.{eq-eqb}
use Rattle.std.proofs.lemmas.Bool.Decides.{eqb_tells}
use Rattle.std.proofs.lemmas.List.{length-append}
use Rattle.std.proofs.lemmas.List.Sums.{sum_by-cons, sum_by-append}
use Rattle.busdma_machine.specs.declared.name.MapId.{MapId}
use Rattle.busdma_machine.specs.Bounce.Account.{Account, Memory, same_map}
use Rattle.busdma_machine.specs.Bounce.Door.{IsRow}
use Rattle.busdma_machine.specs.Machine.Page.{FrameBytes}
use Rattle.busdma_machine.specs.Bounce.MemoryRuns.{frames_from, in_run, put_in, put_all, frames_of}
use Rattle.busdma_machine.specs.Machine.PageList.{page_address, page_addresses}
use Rattle.busdma_machine.specs.Bounce.Places.{times, places, frame_total}
use Rattle.busdma_machine.proofs.Accounts.KeptZones.{keeps-all}
use Rattle.frame_bank.specs.FrameBank.{free_frames, run_pages, is_in_bank_run, put_page, put_pages}
use Rattle.bounce_hub.specs.declared.hub_zone.HubZone.{HubZone}
use Rattle.bounce_hub.specs.declared.pool.Pool.{Pool}
use Rattle.bounce_hub.specs.Pools.{Matches, PoolAgrees}
use Rattle.bounce_hub.proofs.Nested.{nested-after}

abbrev weight : Bool → ℕ
weight b = cond b 1 0

-- another bank and other memories
pub agrees-bank : (p q : Pool) (a : Account) (bank : List ℕ) (mems : List Memory)
    → PoolAgrees p a → free_frames q.bank ≡ bank → q.zones ≡ p.zones → q.nested ≡ p.nested → q.ready ≡ p.ready →
    q.owed + length a.mems ≡ p.owed + length mems → q.maxmem ≡ p.maxmem → q.max_bpages ≡ p.max_bpages
    → PoolAgrees q (record a { bank = bank; mems = mems })
agrees-bank p q a bank mems agrees free zones nested ready more maxmem max_bpages = record {
  bank = free;
  count = ap (λ v. length v.items) zones ∙ agrees.count;
  zones =
      subst (λ v. (y : ℕ) (d : HubZone) → y < length v.items →
      Matches (get_or v.items y d) (record a { bank = bank; mems = mems }) y) (sym zones)
      (λ y d below. (let old : Matches (get_or p.zones.items y d) a y = agrees.zones y d below in
      record {
        lowaddr = old.lowaddr;
        alignment = old.alignment;
        avail = old.avail;
        reserved = old.reserved;
        active = old.active;
        wait = old.wait;
        maps = old.maps;
        deferred = old.deferred;
      }));
  nested = nested-after p q a (record a { bank = bank; mems = mems }) nested agrees.nested (keeps-all a _ refl);
  ready = ap (λ r. r.items) ready ∙ agrees.ready;
  spare = omega (arith, agrees.spare, ap (λ r. r.spare) ready);
  owed = omega (arith, more, agrees.owed);
  maxmem = maxmem ∙ agrees.maxmem;
  max_bpages = max_bpages ∙ agrees.max_bpages;
}

-- frames that follow one another
pub from-row : (n f : ℕ) → IsRow (frames_from n f)
from-row zero f = tt
from-row (suc zero) f = tt
from-row (suc (suc n)) f = (refl, from-row (suc n) (f + 4096))

pub from-length : (n f : ℕ) → length (frames_from n f) ≡ n
from-length zero f = refl
from-length (suc n) f = ap suc (from-length n (f + 4096))

pub from-first : (n f : ℕ) → 0 < n → get_or (frames_from n f) 0 0 ≡ f
from-first zero f some = absurd (omega (arith, some))
from-first (suc n) f some = refl

-- the pages that are left of a bank
pub left-addresses : (first n : ℕ) (ps : List FrameBytes) →
    page_addresses (filter (λ p. not (is_in_bank_run first n p)) ps)
    ≡ filter (λ f. not (in_run first n f)) (page_addresses ps)
left-addresses first n [] = refl
left-addresses first n (p ∷ ps) =
    elim (in_run first n (page_address p))
    as (λ v. page_addresses (cond (not v) (p ∷ filter (λ p. not (is_in_bank_run first n p)) ps)
    (filter (λ p. not (is_in_bank_run first n p)) ps))
    ≡ cond (not v) (page_address p ∷ filter (λ f. not (in_run first n f)) (page_addresses ps))
    (filter (λ f. not (in_run first n f)) (page_addresses ps))) [
      | true ↦ left-addresses first n ps
      | false ↦ ap (λ xs. page_address p ∷ xs) (left-addresses first n ps)
    ]

pub filter-few : {X : Type 0} (q : X → Bool) (xs : List X) → length (filter q xs) ≤ length xs
filter-few q [] = omega arith
filter-few q (x ∷ xs) =
    elim (q x) as (λ v. length (cond v (x ∷ filter q xs) (filter q xs)) ≤ length (x ∷ xs))
    [ true ↦ omega (arith, filter-few q xs) | false ↦ omega (arith, filter-few q xs) ]

-- what is known once a run was found
pub record Found (first : Option ℕ) (n : ℕ) (pages : List FrameBytes) : Type 0 where
  pub at : ℕ
  pub is : first ≡ Some at
  pub row : page_addresses pages ≡ frames_from n at

pub found : (first : Option ℕ) (n : ℕ) (pages : List FrameBytes) →
    Some (page_addresses pages) ≡ option_map (frames_from n) first → Found first n pages
found None n pages e = cc
found (Some at) n pages e = record { at = at; is = refl; row = cc }

pub run-items : (first : Option ℕ) (n at : ℕ) (items ps : List FrameBytes) → first ≡ Some at →
    Some items ≡ run_pages first n ps → items ≡ filter (is_in_bank_run at n) ps
run-items None n at items ps is e = cc
run-items (Some f) n at items ps is e = cc

-- pages put among others, and their addresses
lt-scaled : (f g : ℕ) → nat_lt (4096 * f) (4096 * g) ≡ nat_lt f g
lt-scaled f g =
    (elim (nat_lt f g) as (λ v. nat_lt f g ≡ v → nat_lt (4096 * f) (4096 * g) ≡ v) [
      | true ↦ λ e. grind (arith, e)
      | false ↦ λ e. grind (arith, e)
    ]) refl

put_page-addresses : (p : FrameBytes) (qs : List FrameBytes) →
    page_addresses (put_page p qs) ≡ put_in (page_address p) (page_addresses qs)
put_page-addresses p [] = refl
put_page-addresses p (q ∷ qs) =
    ap (λ (v : Bool). page_addresses (if v then p ∷ q ∷ qs else q ∷ put_page p qs)) (sym (lt-scaled p.frame q.frame))
    ∙ (elim (nat_lt (page_address p) (page_address q))
    as (λ v. page_addresses (if v then p ∷ q ∷ qs else q ∷ put_page p qs)
    ≡ (if v then page_address p ∷ page_address q ∷ page_addresses qs
    else page_address q ∷ put_in (page_address p) (page_addresses qs))) [
      | true ↦ refl
      | false ↦ ap (λ xs. page_address q ∷ xs) (put_page-addresses p qs)
    ])

pub put_pages-addresses : (ps qs : List FrameBytes) →
    page_addresses (put_pages ps qs) ≡ put_all (page_addresses ps) (page_addresses qs)
put_pages-addresses [] qs = refl
put_pages-addresses (p ∷ ps) qs =
    put_page-addresses p (put_pages ps qs) ∙ ap (put_in (page_address p)) (put_pages-addresses ps qs)

pub put_pages-last : (ps qs : List FrameBytes) (p : FrameBytes) →
    put_pages (ps ++ p ∷ []) qs ≡ put_pages ps (put_page p qs)
put_pages-last [] qs p = refl
put_pages-last (x ∷ xs) qs p = ap (put_page x) (put_pages-last xs qs p)

-- the frames of a memory are among those of all memories
frames_of-le : (g : List ℕ → ℕ) → ((xs ys : List ℕ) → g (xs ++ ys) ≡ g xs + g ys) → g [] ≡ 0 →
    (m : MapId) (xs : List Memory) → g (frames_of m xs) ≤ sum_by (λ x. g x.frames) xs
frames_of-le g add none m [] = omega (arith, none)
frames_of-le g add none m (x ∷ xs) =
    let rest : g (frames_of m xs) ≤ sum_by (λ x. g x.frames) xs = frames_of-le g add none m xs in
    elim (same_map m x.mem) as (λ v. g (if v then x.frames ++ frames_of m xs else frames_of m xs)
    ≤ sum_by (λ x. g x.frames) (x ∷ xs)) [
      | true ↦ omega (arith, rest, add x.frames (frames_of m xs), sum_by-cons (λ (y : Memory). g y.frames) x xs)
      | false ↦ omega (arith, rest, sum_by-cons (λ (y : Memory). g y.frames) x xs)
    ]

pub frames-room : (m : MapId) (a : Account) → length a.bank + length (frames_of m a.mems) ≤ frame_total a
frames-room m a = omega (arith, frames_of-le (λ xs. length xs) (λ xs ys. length-append xs ys) refl m a.mems)

-- how often a frame occurs in pages
times-pages : (k : ℕ) (ps : List FrameBytes) → count_by (λ p. p.frame == k) ps ≡ times (4096 * k) (page_addresses ps)
times-pages k [] = refl
times-pages k (p ∷ ps) =
    let same : weight (p.frame == k) ≡ weight (page_address p == 4096 * k) = ap weight (scaled p.frame k) in
    omega (
      arith,
      same,
      times-pages k ps,
      sum_by-cons (λ (q : FrameBytes). weight (q.frame == k)) p ps,
      sum_by-cons (λ f. weight (f == 4096 * k)) (page_address p) (page_addresses ps),
    )
  where
    scaled : (f g : ℕ) → (f == g) ≡ (4096 * f == 4096 * g)
    scaled f g =
        (elim (eqb_tells f g) as (λ _. (f == g) ≡ (4096 * f == 4096 * g)) [
          | inl h ↦ eq-eqb f g h.1 ∙ sym (eq-eqb (4096 * f) (4096 * g) (ap (λ x. 4096 * x) h.1))
          | inr h ↦ ne_eqb f g h.1 ∙ sym (ne_eqb (4096 * f) (4096 * g) (λ e. h.1 (omega (arith, e))))
        ])

pub frames-apart : (m : MapId) (a : Account) (ps bank : List FrameBytes) (k : ℕ) → places (4096 * k) a ≤ 1 →
    page_addresses ps ≡ frames_of m a.mems → page_addresses bank ≡ a.bank →
    count_by (λ p. p.frame == k) bank + count_by (λ p. p.frame == k) ps ≤ 1
frames-apart m a ps bank k once mine free =
    omega (
      arith,
      once,
      times-pages k ps,
      times-pages k bank,
      ap (times (4096 * k)) mine,
      ap (times (4096 * k)) free,
      frames_of-le (times (4096 * k)) (λ xs ys. sum_by-append (λ f. weight (f == 4096 * k)) xs ys) refl m a.mems,
    )

-- one memory fewer
pub mems-less : (m : MapId) (xs : List Memory) →
    length (filter (λ x. not (same_map m x.mem)) xs) + count_by (λ x. same_map m x.mem) xs ≡ length xs
mems-less m [] = refl
mems-less m (x ∷ xs) =
    (elim (same_map m x.mem) as (λ v. same_map m x.mem ≡ v →
    length (cond (not v) (x ∷ filter (λ x. not (same_map m x.mem)) xs) (filter (λ x. not (same_map m x.mem)) xs))
    + count_by (λ x. same_map m x.mem) (x ∷ xs) ≡ length (x ∷ xs)) [
      | true ↦ λ w. (let one : weight (same_map m x.mem) ≡ 1 = rw w refl in
          omega (arith, one, mems-less m xs, sum_by-cons (λ (y : Memory). weight (same_map m y.mem)) x xs))
      | false ↦ λ w. (let none : weight (same_map m x.mem) ≡ 0 = rw w refl in
          omega (arith, none, mems-less m xs, sum_by-cons (λ (y : Memory). weight (same_map m y.mem)) x xs))
    ]) refl

-- the last of pages that are to be put is put
count-put_page : (chosen : FrameBytes → Bool) (p : FrameBytes) (qs : List FrameBytes) →
    count_by chosen (put_page p qs) ≡ weight (chosen p) + count_by chosen qs
count-put_page chosen p [] = omega (arith, sum_by-cons (λ (x : FrameBytes). weight (chosen x)) p [])
count-put_page chosen p (q ∷ qs) =
    elim (nat_lt p.frame q.frame) as (λ v. count_by chosen (if v then p ∷ q ∷ qs else q ∷ put_page p qs)
    ≡ weight (chosen p) + count_by chosen (q ∷ qs)) [
      | true ↦ omega (arith, sum_by-cons (λ (x : FrameBytes). weight (chosen x)) p (q ∷ qs))
      | false ↦ omega (
        arith,
        count-put_page chosen p qs,
        sum_by-cons (λ (x : FrameBytes). weight (chosen x)) q (put_page p qs),
        sum_by-cons (λ (x : FrameBytes). weight (chosen x)) q qs,
      )
    ]

pub length-put_page : (p : FrameBytes) (qs : List FrameBytes) → length (put_page p qs) ≡ length qs + 1
length-put_page p [] = refl
length-put_page p (q ∷ qs) =
    elim (nat_lt p.frame q.frame) as (λ v. length (if v then p ∷ q ∷ qs else q ∷ put_page p qs) ≡ length (q ∷ qs) + 1)
    [ true ↦ omega arith | false ↦ omega (arith, length-put_page p qs) ]

count-last : (chosen : FrameBytes → Bool) (items rest : List FrameBytes) (p : FrameBytes) → items ≡ rest ++ p ∷ [] →
    count_by chosen items ≡ count_by chosen rest + weight (chosen p)
count-last chosen items rest p is = ap (count_by chosen) is
    ∙ sum_by-append (λ (x : FrameBytes). weight (chosen x)) rest (p ∷ [])
    ∙ omega (arith, sum_by-cons (λ (x : FrameBytes). weight (chosen x)) p [])

pub put-apart : (bank items rest : List FrameBytes) (p : FrameBytes) → items ≡ rest ++ p ∷ [] →
    ((k : ℕ) → count_by (λ q. q.frame == k) bank + count_by (λ q. q.frame == k) items ≤ 1) →
    count_by (λ q. q.frame == p.frame) bank ≡ 0
put-apart bank items rest p is apart =
    let one : weight (p.frame == p.frame) ≡ 1 = ap weight (eq-eqb p.frame p.frame refl) in
    omega (arith, one, apart p.frame, count-last (λ q. q.frame == p.frame) items rest p is)

pub put-next : (bank items rest : List FrameBytes) (p : FrameBytes) → items ≡ rest ++ p ∷ [] →
    ((k : ℕ) → count_by (λ q. q.frame == k) bank + count_by (λ q. q.frame == k) items ≤ 1) → (k : ℕ) →
    count_by (λ q. q.frame == k) (put_page p bank) + count_by (λ q. q.frame == k) rest ≤ 1
put-next bank items rest p is apart k =
    omega (arith, apart k, count-last (λ q. q.frame == k) items rest p is, count-put_page (λ q. q.frame == k) p bank)
