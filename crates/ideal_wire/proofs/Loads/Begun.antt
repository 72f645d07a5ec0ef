-- What is known of a load that begins, of the next operation or of a resend.
use Rattle.std.proofs.Common.{◌≡◌, ℕ, Bool, true, false, List, Option, None, refl, ap, sym}
use Rattle.std.proofs.Common.{◌∙◌, subst}
use Rattle.ideal_lane.specs.Sends.{Send}
use Rattle.ideal_lane.specs.State.{LaneState}
use Rattle.ideal_lane.specs.State.{named}
use Rattle.ideal_lane.specs.Loads.{zone_of_map}
use Rattle.ideal_lane.specs.Turns.{bio_at, never_waits}
use Rattle.busdma_machine.specs.declared.machine.bio.Bio.{Bio}
use Rattle.busdma_machine.specs.declared.machine.bio.Bio.TheVariants.{Vector}
use Rattle.busdma_machine.specs.declared.bounce.hold.HubCall.TheVariants.{Grab}
use Rattle.busdma_machine.specs.declared.bounce.hold.HubReply.TheVariants.{Queued}
use Rattle.busdma_machine.specs.Bounce.Account.{Account}
use Rattle.busdma_machine.specs.Bounce.AccountStep.{account_step}
use Rattle.busdma_base.specs.declared.scenarios.script.Op.TheVariants as op
use Rattle.busdma_rules.specs.Segments.Chunks.{need_of}
use Rattle.ideal_lane.proofs.Effects.{Begins, Callback, IsNext, Operation, Transfer, Work, again, chunks, grab}
use Rattle.ideal_lane.proofs.Sent.{unqueued}
use Rattle.busdma_base.specs.declared.scenarios.scenario.PageRun.{PageRun}
use Rattle.busdma_base.specs.Scenarios.Buffers.{IsBioOf}
use Rattle.busdma_base.specs.Scenarios.Valid.{LoadsFrom}
use Rattle.ideal_wire.specs.Machine.{IsInMachine}
use Rattle.ideal_wire.proofs.Loads.Buffers.{all-at, bio-named}
use Rattle.ideal_wire.proofs.Laid.Positions.{found_one}

-- what is done is the next operation, an item or a callback, or the load of a send from its clusters
pub data IsDone (l : LaneState) : Work → Type 0 where
  Next : {d : Work} → IsNext l d → IsDone l d
  Again : (s : Send) → IsDone l (Operation (again s))

-- the frames that an operation names are of these pages
abbrev IsFrom : List PageRun → Work → Type 0
IsFrom pages (Operation o) = LoadsFrom pages o
IsFrom pages (Transfer i) = Unit {0}
IsFrom pages (Callback m) = Unit {0}

next-from : (l : LaneState) → IsInMachine l → (d : Work) → IsNext l d → IsFrom l.pages d
next-from l machine (Operation o) at = all-at (LoadsFrom l.pages) l.script l.place o machine.bios at
next-from l machine (Transfer i) at = tt
next-from l machine (Callback m) at = tt

done-from : (l : LaneState) → IsInMachine l → {d : Work} → IsDone l d → IsFrom l.pages d
done-from l machine {d} (Next at) = next-from l machine d at
done-from l machine (Again s) = tt

-- the frames that the bio of a load names are of the driver's pages
pub begun-bio : (l : LaneState) → IsInMachine l → {d : Work} (b : Begins l d) → IsDone l d → IsBioOf l.pages b.bio
begun-bio l machine b at =
    bio-named l.pages l b.buffer b.bio b.found (subst (IsFrom l.pages) b.is (done-from l machine at))

-- ---- the load of a send from its clusters

abbrev map-of : Work → ℕ
map-of (Operation (op.Load m x flags items)) = m
map-of _ = 0

abbrev bio-of : LaneState → Work → Option Bio
bio-of l (Operation (op.Load m x flags items)) = bio_at l x
bio-of l _ = None

abbrev never-waits : Work → Bool
never-waits (Operation (op.Load m x flags items)) = never_waits x flags
never-waits _ = false

module _ (l : LaneState) (s : Send) (b : Begins l (Operation (again s))) where
  -- the load is of the send's map and of its clusters
  pub again-map : s.map ≡ b.m
  again-map = ap map-of b.is

  pub again-bio : Vector s.clusters ≡ b.bio
  again-bio = found_one (bio-of l (Operation (again s))) (Vector s.clusters) b.bio refl (ap (bio-of l) b.is ∙ b.found)

  -- the load never waits
  again-now : true ≡ never_waits b.buffer b.flags
  again-now = ap never-waits b.is

  pub again-unqueued : (a : Account) (have : ℕ) → (account_step l.id (grab b) a).reply ≡ Queued have → ⊥
  again-unqueued a have e =
      unqueued l.id (named l b.m) (record { 0 = zone_of_map b.o }) (need_of (chunks b)) a have
      (subst (λ q. (account_step l.id (Grab (named l b.m) (record { 0 = zone_of_map b.o }) (need_of (chunks b)) q)
      a).reply
      ≡ Queued have) (sym again-now) e)
