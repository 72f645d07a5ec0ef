-- The entries of one driver's log lead on: up to its next hold, and past its last one.
use Rattle.std.proofs.Common.{◌≡◌, ℕ, List, [], ◌∷◌, Some, refl, sym, ap, ◌∙◌, subst, slice_get, slice_set}
use Rattle.busdma_machine.specs.declared.bounce.hold.HoldEntry.{HoldEntry}
use Rattle.busdma_machine.specs.Bounce.Account.{Account}
use Rattle.busdma_machine.specs.Bounce.History.{IsSoundEntry, after_entry}
use Rattle.ideal_lane.specs.State.{LaneState}
use Rattle.ideal_world.specs.Legal.{Leads}
use Rattle.ideal_world.specs.World.{WorldState}
use Rattle.ideal_world.proofs.Lanes.{within, set-here, set_same}
use Rattle.ideal_runs.specs.declared.logged_step.LoggedStep.TheVariants.{Local, Held}
use Rattle.ideal_runs.specs.Merged.{log_entries, past_hold, through_hold, world_of}
use Rattle.ideal_runs.specs.Runs.{Log, Runs}
use Rattle.ideal_runs.proofs.OneTurn.{leads-first, alone-owned, by-owned, alone-turns, by-turns}
use Rattle.ideal_runs.proofs.Seams.{set-again}

-- the driver of a number, after its entries up to its next hold
pub record IsThroughHold (w : WorldState) (i : ℕ) (log : Log) (h : HoldEntry) (hs : List HoldEntry) (m : LaneState) :
    Type 0 where
  pub next : LaneState
  pub number : next.id ≡ i
  pub leads : Leads w (through_hold log) (world_of (slice_set w.lanes i next) (after_entry h w.account))
  pub runs : Runs next (past_hold log) hs m

module _ (i : ℕ) (m : LaneState) where
  -- a driver put in its place is there
  put : (w : WorldState) (l k : LaneState) → slice_get w.lanes i ≡ Some l → slice_get (slice_set w.lanes i k) i ≡ Some
      k
  put w l k there = set-here w.lanes i k (within w.lanes i l there)

  pub one-hold : (log : Log) (l : LaneState) (w : WorldState) (h : HoldEntry) (hs : List HoldEntry) →
      l.id ≡ i → slice_get w.lanes i ≡ Some l → h.lane.0 ≡ i → IsSoundEntry h w.account → Runs l log (h ∷ hs) m →
      IsThroughHold w i log h hs m
  one-hold [] l w h hs number there lane sound run = absurd run
  one-hold (Held e ∷ log) l w h hs number there lane sound run =
      let k : LaneState = run.0 in
      let v : WorldState = world_of (slice_set w.lanes i k) (after_entry h w.account) in
      record {
        next = k;
        number = (by-owned l k e h run.1).same ∙ number;
        leads = leads-first w v v e [] (by-turns l k e w i number there h lane sound run.1) refl;
        runs = run.2;
      }
  one-hold (Local e ∷ log) l w h hs number there lane sound run =
      let k : LaneState = run.0 in
      let v : WorldState = world_of (slice_set w.lanes i k) w.account in
      let after : Account = after_entry h w.account in
      let more : IsThroughHold v i log h hs m = one-hold log k v h hs ((alone-owned l k e run.1).same ∙ number)
      (put w l k there) lane sound run.2 in
      let leads : Leads v (through_hold log) (world_of (slice_set w.lanes i more.next) after) =
      subst (λ ls. Leads v (through_hold log) (world_of ls after)) (set-again w.lanes i k more.next) more.leads in
      record {
        next = more.next;
        number = more.number;
        leads = leads-first w v (world_of (slice_set w.lanes i more.next) after) e (through_hold log)
            (alone-turns l k e w i number there run.1) leads;
        runs = more.runs;
      }

  pub no-hold : (log : Log) (l : LaneState) (w : WorldState) →
      l.id ≡ i → slice_get w.lanes i ≡ Some l → Runs l log [] m →
      Leads w (log_entries log) (world_of (slice_set w.lanes i m) w.account)
  no-hold [] l w number there run = ap (λ ls. world_of ls w.account) (sym (set_same w.lanes i l m there (sym run)))
  no-hold (Held e ∷ log) l w number there run = absurd run
  no-hold (Local e ∷ log) l w number there run =
      let k : LaneState = run.0 in
      let v : WorldState = world_of (slice_set w.lanes i k) w.account in
      let more : Leads v (log_entries log) (world_of (slice_set w.lanes i m) w.account) =
      subst (λ ls. Leads v (log_entries log) (world_of ls w.account)) (set-again w.lanes i k m)
      (no-hold log k v ((alone-owned l k e run.1).same ∙ number) (put w l k there) run.2) in
      leads-first w v (world_of (slice_set w.lanes i m) w.account) e (log_entries log)
      (alone-turns l k e w i number there run.1) more
