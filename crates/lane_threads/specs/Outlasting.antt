-- A call that a lane may make stays allowed after entries of other lanes.
use Rattle.std.specs.Prelude.{◌≡◌, ◌≢◌, ◌+◌, List, [], ◌∷◌, ◌++◌, All}
use Rattle.std.proofs.Common.{refl, sym, ap, ◌∙◌, subst}
use Rattle.std.proofs.lemmas.List.Elements.{All-nil, All-cons}
use Rattle.busdma_machine.specs.declared.bounce.hold.HoldEntry.{HoldEntry}
use Rattle.busdma_machine.specs.Bounce.Account.{Account}
use Rattle.busdma_machine.specs.Bounce.Conditions.{MayCall}
use Rattle.busdma_machine.specs.Bounce.History.{IsSound, account_of}
use Rattle.busdma_machine.proofs.Accounts.LaneEntries.{account_of-append, sound-rest}
use Rattle.busdma_machine.proofs.Accounts.ShareLaws.{MayCall-stays, frames-stay}
use Rattle.turnstile.specs.TurnObject.{OutlastsOthers}
use Rattle.lane_threads.specs.declared.call.DoorCall.{DoorCall}
use Rattle.lane_threads.specs.declared.call.DoorCall.TheVariants.{AttachTag, CreateMap, DestroyMap, Grab}
use Rattle.lane_threads.specs.declared.call.DoorCall.TheVariants.{Release, TakeCallback, MemAlloc, MemFree}
use Rattle.lane_threads.specs.Calls.{hub_call, lane_of}
use Rattle.lane_threads.specs.Object.{IsLegalHistory, IsOfName, MayAct, GivesBack}

-- pages that a call gives back are still those of the memory after entries of other lanes
gives_back-stays : (c : DoorCall) (a : Account) (es : List HoldEntry) → IsSound a es
    → All (λ e. e.lane.0 ≢ lane_of c) es → GivesBack c a → GivesBack c (account_of a es)
gives_back-stays (AttachTag alloc l tag) a es sound others g = tt
gives_back-stays (CreateMap alloc map tag first_done) a es sound others g = tt
gives_back-stays (DestroyMap map zone) a es sound others g = tt
gives_back-stays (Grab alloc map zone need nowait) a es sound others g = tt
gives_back-stays (Release map zone page) a es sound others g = tt
gives_back-stays (TakeCallback l) a es sound others g = tt
gives_back-stays (MemAlloc alloc mem tag) a es sound others g = tt
gives_back-stays (MemFree mem pages) a es sound others g =
    g ∙ sym (frames-stay mem.lane.0 mem a es refl sound others)

-- a call that a lane may make stays allowed after entries of other lanes, which a turnstile requires of its object
pub may-outlasts : OutlastsOthers IsLegalHistory IsOfName MayAct
may-outlasts o history name other c e may apart fits legal =
    let here : Account = account_of o history in
    let later : account_of o (history ++ e ∷ []) ≡ account_of here (e ∷ []) =
    account_of-append o history (e ∷ []) in
    let sound : IsSound here (e ∷ []) = sound-rest o history (e ∷ []) legal.sound in
    let IsOther : HoldEntry → Type 0 = (λ x. x.lane.0 ≢ lane_of c) in
    let away : IsOther e = (λ same. apart (sym fits ∙ (ap (λ n. n + 1) same ∙ may.lane))) in
    let others : All IsOther (e ∷ []) = All-cons IsOther e [] away (All-nil IsOther) in
    record {
      lane = may.lane;
      may = subst (MayCall (lane_of c) (hub_call c)) (sym later)
          (MayCall-stays (lane_of c) (hub_call c) here (e ∷ []) may.may sound others);
      pages = subst (GivesBack c) (sym later) (gives_back-stays c here (e ∷ []) sound others may.pages);
    }
