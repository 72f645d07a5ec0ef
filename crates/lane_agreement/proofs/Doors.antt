-- The agreement at a door that serves the driver.
use Rattle.std.proofs.Common.{◌≡◌, ◌≢◌, ℕ, Bool, false, List, [], ◌∷◌, ◌++◌, refl, sym, ap, ◌∙◌, subst, All, IsTrue}
use Rattle.std.proofs.lemmas.Bool.{false≢true}
use Rattle.std.proofs.lemmas.List.Elements.{All-nil, All-cons, All-head, All-tail}
use Rattle.busdma_machine.specs.declared.bounce.hold.HubCall.{HubCall}
use Rattle.busdma_machine.specs.declared.bounce.hold.HubReply.{HubReply}
use Rattle.busdma_machine.specs.declared.bounce.hold.HoldEntry.{HoldEntry}
use Rattle.busdma_machine.specs.Bounce.Account.{Account}
use Rattle.busdma_machine.specs.Bounce.AccountStep.{account_step}
use Rattle.busdma_machine.specs.Bounce.History.{IsOpening, IsSound, after_entry, account_of}
use Rattle.busdma_machine.specs.Bounce.Door.{Seen, account, Passes, HoldsAtDoor}
use Rattle.lane_agreement.specs.View.{View}
use Rattle.lane_agreement.specs.Agreement.{Agrees}
use Rattle.lane_agreement.specs.After.{after, MayAsk}
use Rattle.lane_agreement.proofs.Others.{agrees-stays}
use Rattle.lane_agreement.proofs.Whole.{agrees-step, fit-reached}

account-append : (a : Account) (es fs : List HoldEntry) → account_of a (es ++ fs) ≡ account_of (account_of a es) fs
account-append a [] fs = refl
account-append a (e ∷ es) fs = account-append (after_entry e a) es fs

sound-first : (a : Account) (es fs : List HoldEntry) → IsSound a (es ++ fs) → IsSound a es
sound-first a [] fs sound = tt
sound-first a (e ∷ es) fs sound = (sound.0, sound-first (after_entry e a) es fs sound.1)

sound-rest : (a : Account) (es fs : List HoldEntry) → IsSound a (es ++ fs) → IsSound (account_of a es) fs
sound-rest a [] fs sound = sound
sound-rest a (e ∷ es) fs sound = sound-rest (after_entry e a) es fs sound.1

others_away : (serves : ℕ → Bool) (lane : ℕ) (es : List HoldEntry) → IsTrue (serves lane) →
    All (λ e. serves e.lane.0 ≡ false) es → All (λ e. e.lane.0 ≢ lane) es
others_away serves lane [] served apart = All-nil (λ (e : HoldEntry). e.lane.0 ≢ lane)
others_away serves lane (e ∷ es) served apart =
    All-cons (λ (e : HoldEntry). e.lane.0 ≢ lane) e es
    (λ is. absurd
    (false≢true (sym (All-head (λ (e : HoldEntry). serves e.lane.0 ≡ false) e es apart) ∙ ap serves is ∙ served)))
    (others_away serves lane es served (All-tail (λ (e : HoldEntry). serves e.lane.0 ≡ false) e es apart))

pub agrees-passes : (l : View) (d : Seen) (others : List HoldEntry) (e : Seen) → Agrees l (account d) →
    IsTrue (d.serves l.id) → Passes d others e → Agrees l (account e)
agrees-passes l d others e agrees served passes =
    let form : IsOpening d.opening = subst (λ o. IsOpening o) passes.opening passes.form in
    let sound : IsSound d.opening (d.history ++ others) =
    subst (λ o. IsSound o (d.history ++ others)) passes.opening
    (subst (λ h. IsSound e.opening h) passes.history passes.sound) in
    subst (λ o. Agrees l (account_of o e.history)) (sym passes.opening)
    (subst (λ h. Agrees l (account_of d.opening h)) (sym passes.history)
    (subst (λ a. Agrees l a) (sym (account-append d.opening d.history others))
    (agrees-stays l (account d) others (fit-reached d.opening d.history form
    (sound-first d.opening d.history others sound)).well agrees (sound-rest d.opening d.history others sound)
    (others_away d.serves l.id others served passes.apart))))

pub agrees-holds : (fits : Bool) (l : View) (d : Seen) (c : HubCall) (r : HubReply) (e : Seen) → Agrees l (account d) →
    IsTrue (d.serves l.id) → HoldsAtDoor d l.id c r e → MayAsk l c → Agrees (after fits l c r) (account e)
agrees-holds fits l d c r e agrees served holds asks =
    let b : Seen = holds.between in
    let own : List HoldEntry = record { lane = record { 0 = l.id }; call = c; reply = r } ∷ [] in
    subst (λ o. Agrees (after fits l c r) (account_of o e.history)) (sym holds.opening)
    (subst (λ h. Agrees (after fits l c r) (account_of b.opening h)) (sym holds.history)
    (subst (λ a. Agrees (after fits l c r) a) (sym (account-append b.opening b.history own))
    (subst (λ k. Agrees (after fits l c k) (account_step l.id c (account b)).account) (sym holds.reply)
    (agrees-step fits l c (account b) (fit-reached b.opening b.history holds.passes.form holds.passes.sound)
    (agrees-passes l d holds.others b agrees served holds.passes) asks))))
