-- The frames that the account gives to a memory are free ones of the machine, and so new to each driver.
use mathlib.Core.Logic.{∥∥₁_elim}
use Rattle.std.proofs.Common.{◌≡◌, ℕ, zero, suc, ◌+◌, ◌-◌, ◌*◌, ◌/◌, ◌%◌, ◌<◌, ◌≤◌, ◌==◌, ◌&&◌, Bool, true, false, cond}
use Rattle.std.proofs.Common.{if◌then◌else◌, List, [], ◌∷◌, Option, Some, None, is_some, All, refl, ap, sym, subst}
use Rattle.std.proofs.Common.{arith, nat_le, nat_lt}
use Rattle.std.proofs.lemmas.Bool.{and_parts, eqb-true, leb-true, le-leb, lt-ltb}
use Rattle.std.proofs.lemmas.List.Elements.{All-head, All-tail}
use Rattle.busdma_machine.specs.declared.bounce.hold.HubCall.{HubCall}
use Rattle.busdma_machine.specs.declared.bounce.hold.HubCall.TheVariants as call
use Rattle.busdma_machine.specs.declared.bounce.hold.HubReply.TheVariants as reply
use Rattle.busdma_machine.specs.declared.bounce.zone.Waiter.{Waiter}
use Rattle.busdma_machine.specs.declared.machine.address.Pa.{Pa}
use Rattle.busdma_machine.specs.declared.name.MapId.{MapId}
use Rattle.busdma_machine.specs.Bounce.Account.{Account, free, zone_at}
use Rattle.busdma_machine.specs.Bounce.AccountStep.{account_step, as_pages, called_from, grabbed}
use Rattle.busdma_machine.specs.Bounce.AccountStep as account
use Rattle.busdma_machine.specs.Bounce.EachFrame.{EachFrame, LiesBelowMaxmem}
use Rattle.busdma_machine.specs.Bounce.History.{IsFrame}
use Rattle.busdma_machine.specs.Bounce.MemoryRuns.{begins_run, crosses_none, follow, frames_for, frames_from}
use Rattle.busdma_machine.specs.Bounce.MemoryRuns.{in_run, lowest_run}
use Rattle.busdma_machine.specs.Bounce.Places.{times}
use Rattle.busdma_machine.specs.Bounce.Serving.{handed, waiting_at_tail}
use Rattle.lane_agreement.specs.OwnShare.{share_if}
use Rattle.lane_agreement.proofs.Own.{count-one}
use Rattle.ideal_lane.specs.Agreement.{AgreesWith}
use Rattle.ideal_lane.specs.State.{LaneState, named}
use Rattle.ideal_wire.specs.Laid.{AreLaid, IsOwnByte, OfPages, OfMemory}
use Rattle.ideal_wire.specs.NewRuns.{BringsNew, IsNewRun}
use Rattle.ideal_wire.proofs.Apart.Frames.{frame_of, mems-two, memory-held, next, off-next, own-frame, run-frame}
use Rattle.ideal_wire.proofs.Laid.Positions.{found_one}

-- ---- the lowest run of free frames

-- what holds of each frame holds of a frame that is among them
of-times : (P : ℕ → Type 0) (frames : List ℕ) (p : ℕ) → All P frames → 1 ≤ times p frames → P p
of-times P [] p all some = absurd (omega (arith, some))
of-times P (f ∷ frames) p all some = by (f == p) refl (of-times P frames p (All-tail P f frames all))
  where
    by : (b : Bool) → (f == p) ≡ b → (1 ≤ times p frames → P p) → P p
    by true e rest = subst P (eqb-true f p e) (All-head P f frames all)
    by false e rest = rest (omega (arith, some, count-one (λ g. g == p) f frames, ap share_if e))

-- frames that follow one another at the head of other frames are among them
followed : (n f p : ℕ) (gs : List ℕ) → follow n f gs ≡ true → times p (frames_from n f) ≤ times p gs
followed zero f p gs h = omega arith
followed (suc n) f p [] h = absurd (cc)
followed (suc n) f p (g ∷ gs) h =
    let parts = and_parts (g == f) (follow n (f + 4096) gs) h in
    let same : g ≡ f = eqb-true g f parts.0 in
    omega (
      arith,
      followed n (f + 4096) p gs parts.1,
      count-one (λ x. x == p) f (frames_from n (f + 4096)),
      count-one (λ x. x == p) g gs,
      ap (λ x. share_if (x == p)) same,
    )

-- n frames from a first one on are free ones, of which the last ends at or below a limit
pub record IsGiven (limit : ℕ) (bank : List ℕ) (n first : ℕ) : Type 0 where
  pub frame : IsFrame first
  pub low : first + 4096 * n ≤ limit + 1
  pub among : (p : ℕ) → times p (frames_from n first) ≤ times p bank

pub given : (len boundary limit : ℕ) (bank : List ℕ) (first : ℕ) → All IsFrame bank →
    lowest_run len boundary limit bank ≡ Some first → IsGiven limit bank (frames_for len) first
given len boundary limit [] first all e = absurd (cc)
given len boundary limit (g ∷ gs) first all e =
    by (begins_run len boundary limit (g ∷ gs)) refl e
    (given len boundary limit gs first (All-tail IsFrame g gs all))
  where
    n : ℕ
    n = frames_for len

    fits : Bool
    fits = nat_le (g + 4096 * n) (limit + 1) && crosses_none len boundary g

    here : begins_run len boundary limit (g ∷ gs) ≡ true → IsGiven limit (g ∷ gs) n g
    here t =
        let parts = and_parts (follow n g (g ∷ gs)) fits t in record {
          frame = All-head IsFrame g gs all;
          low = leb-true (g + 4096 * n) (limit + 1)
              (and_parts (nat_le (g + 4096 * n) (limit + 1)) (crosses_none len boundary g) parts.1).0;
          among = λ p. followed n g p (g ∷ gs) parts.0;
        }

    more : IsGiven limit gs n first → IsGiven limit (g ∷ gs) n first
    more h = record {
      frame = h.frame;
      low = h.low;
      among = λ p. omega (arith, h.among p, count-one (λ x. x == p) g gs);
    }

    by : (b : Bool) → begins_run len boundary limit (g ∷ gs) ≡ b →
        (if b then Some g else lowest_run len boundary limit gs) ≡ Some first →
        (lowest_run len boundary limit gs ≡ Some first → IsGiven limit gs n first) → IsGiven limit (g ∷ gs) n first
    by true t h rest = subst (IsGiven limit (g ∷ gs) n) (found_one (Some g) g first refl h) (here t)
    by false t h rest = more (rest h)

-- a run of the account has as many frames as a memory's bytes need
pub run-is : (m : MapId) (n : ℕ) (low : Option ℕ) (a : Account) (first : Pa) (count : ℕ) →
    (account.memory_placed m n low a).reply ≡ reply.Run first count → (low ≡ Some first.0) × (n ≡ count)
run-is m n None a first count e = absurd (cc)
run-is m n (Some f) a first count e =
    let at : record { 0 = f } ≡ first = cc in
    let many : n ≡ count = cc in
    (ap (λ (p : Pa). Some p.0) at, many)

-- ---- what they are to a driver
module _ (l : LaneState) (a : Account) (agrees : AgreesWith l a) (frames : EachFrame IsFrame a)
    (low : LiesBelowMaxmem a) (laid : AreLaid l) where
  module _ (limit n first : ℕ) (some : 1 ≤ n) (is : IsGiven limit a.bank n first) where
    -- the frame of each byte of the run is a free one
    is-free : (b : ℕ) → in_run first n b ≡ true → 1 ≤ times (frame_of b) a.bank
    is-free b h = omega (arith, run-frame n first b is.frame.whole h, is.among (frame_of b))

    -- no byte of the run is the driver's own
    not-own : (b : ℕ) → in_run first n b ≡ true → IsOwnByte l b → ⊥
    not-own b h (OfPages e) =
        absurd (omega (arith, agrees.apart (frame_of b) (own-frame l.pages b e), is-free b h))
    not-own b h (OfMemory k x there g) =
        let f : ℕ = frame_of b in
        absurd
        (omega (
          arith,
          agrees.one f,
          is-free b h,
          mems-two (named l k) (next (named l k)) f a.mems (off-next (named l k)),
          memory-held l a agrees k x f there,
          run-frame x.count x.first b (laid.runs k x there).whole g,
        ))

    fresh : (b : ℕ) → in_run first n b ≡ true → is_some (l.memory b) ≡ false
    fresh b h = by (is_some (l.memory b)) refl
      where
        by : (t : Bool) → is_some (l.memory b) ≡ t → is_some (l.memory b) ≡ false
        by true e = absurd (∥∥₁_elim (laid.only b e) (λ x y. absurd x) (not-own b h))
        by false e = e

    -- the last frame lies below the end of the machine's memory
    below : first + 4096 * n ≤ 4096 * l.maxmem
    below =
        let last : ℕ = first + (4096 * n - 1) in
        let inside : in_run first n last ≡ true =
        rw (le-leb first last (omega arith), lt-ltb last (first + 4096 * n) (omega (arith, some))) refl in
        let there : frame_of last < 4096 * a.maxmem =
        of-times (λ f. f < 4096 * a.maxmem) a.bank (frame_of last) low.bank (is-free last inside) in
        let end : l.maxmem ≡ a.maxmem = agrees.maxmem in
        omega (arith, there, end, some, is.frame.whole)

    new-run : IsNewRun l first n
    new-run = record { whole = is.frame.whole; below = below; fresh = fresh }

  grabbed-new : (m : MapId) (z need : ℕ) (nowait : Bool) → BringsNew l (grabbed m z need nowait a).reply
  grabbed-new m z need nowait = by (nat_le need (free a z)) nowait
    where
      by : (b c : Bool) → BringsNew l (account.AccountReply.reply
          (if b then record {
            account = handed a m z need;
            reply = reply.Granted (as_pages (Rattle.std.proofs.Common.take need (zone_at a z).avail));
          }
          else if c then record { account = a; reply = reply.NoPages }
          else record { account = waiting_at_tail a m z need; reply = reply.Queued (free a z) }))
      by true c = tt
      by false true = tt
      by false false = tt

  called-new : (lane : ℕ) (ws : List Waiter) → BringsNew l (called_from ws lane a).reply
  called-new lane [] = tt
  called-new lane (w ∷ ws) = by (w.map.lane.0 == lane)
    where
      b : Account
      b = record a { ready = ws }

      by : (t : Bool) → BringsNew l (account.AccountReply.reply
          (if t then record {
            account = handed b w.map w.zone.0 w.need;
            reply = reply.Called w.map (as_pages (Rattle.std.proofs.Common.take w.need (zone_at b w.zone.0).avail));
          }
          else record { account = a; reply = reply.Nothing }))
      by true = tt
      by false = tt

  placed-new : (m : MapId) (len boundary limit : ℕ) (o : Option ℕ) → lowest_run len boundary limit a.bank ≡ o →
      BringsNew l (account.memory_placed m (frames_for len) o a).reply
  placed-new m len boundary limit None e = tt
  placed-new m len boundary limit (Some first) e =
      new-run limit (frames_for len) first (omega arith) (given len boundary limit a.bank first frames.bank e)

  pub given-new : (lane : ℕ) (c : HubCall) → BringsNew l (account_step lane c a).reply
  given-new lane (call.AttachTag t) = tt
  given-new lane (call.CreateMap m t first_done) = tt
  given-new lane (call.DestroyMap m z) = tt
  given-new lane (call.Grab m z need nowait) = grabbed-new m z.0 need nowait
  given-new lane (call.Release m z page) = tt
  given-new lane call.TakeCallback = called-new lane a.ready
  given-new lane (call.MemAlloc m t) = placed-new m t.maxsize t.boundary t.lowaddr.0 _ refl
  given-new lane (call.MemFree m) = tt
