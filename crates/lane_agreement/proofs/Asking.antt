-- If a driver and the account agree, the account allows each call that the driver's state allows.
use Rattle.std.proofs.Common.{◌≡◌, ℕ, ◌≤◌, true, List, [], ◌∷◌, refl, ap, subst, arith, eqb, ◌==◌, Some, None, IsTrue}
use Rattle.std.proofs.lemmas.Bool.{eq-eqb}
use Rattle.busdma_machine.specs.declared.name.MapId.{MapId}
use Rattle.busdma_machine.specs.declared.bounce.hold.HubCall.{HubCall}
use Rattle.busdma_machine.specs.declared.bounce.hold.HubCall.TheVariants.{AttachTag, CreateMap, DestroyMap, Grab}
use Rattle.busdma_machine.specs.declared.bounce.hold.HubCall.TheVariants.{Release}
use Rattle.busdma_machine.specs.declared.bounce.hold.HubCall.TheVariants.{TakeCallback, MemAlloc, MemFree}
use Rattle.busdma_machine.specs.Bounce.Account.{Account, Held}
use Rattle.busdma_machine.specs.Bounce.Serving.{is_holding}
use Rattle.busdma_machine.specs.Bounce.Conditions.{MayCall, IsIdle, times_held}
use Rattle.busdma_machine.specs.Tags.Tag.{could_bounce}
use Rattle.busdma_machine.specs.Bounce.Places.{places}
use Rattle.busdma_machine.proofs.Accounts.Names.{and_left}
use Rattle.lane_agreement.specs.View.{View, Return, Idle}
use Rattle.busdma_machine.specs.Bounce.Share.{Same, share}
use Rattle.lane_agreement.specs.OwnShare.{share_of, is_return, share_if}
use Rattle.lane_agreement.specs.Agreement.{Agrees}
use Rattle.lane_agreement.specs.After.{MayAsk, IsFront}
use Rattle.lane_agreement.proofs.Own.{count-one, count-less}

-- what the account has of a name, if the driver's map there is known
pub known : (l : View) (a : Account) (m : MapId) (o : _) → Agrees l a → m.lane.0 ≡ l.id → l.map_at m.made_at ≡ o →
    Same (share_of m.made_at o (l.mem_at m.made_at) l.returns) (share m a)
known l a m o agrees own here =
    subst (λ k. Same (share_of m.made_at k (l.mem_at m.made_at) l.returns) (share m a)) here (agrees.names m own)

pub known_mem : (l : View) (a : Account) (m : MapId) (x : _) → Agrees l a → m.lane.0 ≡ l.id → l.mem_at m.made_at ≡ x →
    Same (share_of m.made_at (l.map_at m.made_at) x l.returns) (share m a)
known_mem l a m x agrees own here =
    subst (λ k. Same (share_of m.made_at (l.map_at m.made_at) k l.returns) (share m a)) here (agrees.names m own)

pub known_returns : (l : View) (a : Account) (m : MapId) (rs : List Return) → Agrees l a → m.lane.0 ≡ l.id →
    l.returns ≡ rs → Same (share_of m.made_at (l.map_at m.made_at) (l.mem_at m.made_at) rs) (share m a)
known_returns l a m rs agrees own here =
    subst (λ k. Same (share_of m.made_at (l.map_at m.made_at) (l.mem_at m.made_at) k) (share m a)) here
    (agrees.names m own)

idle : (l : View) (a : Account) (m : MapId) (z : ℕ) → Agrees l a → m.lane.0 ≡ l.id →
    l.map_at m.made_at ≡ Some (record { zone = z; stage = Idle }) → IsIdle m z a
idle l a m z agrees own here =
    let g : Same (share_of m.made_at (Some (record { zone = z; stage = Idle })) (l.mem_at m.made_at) l.returns)
    (share m a) = known l a m _ agrees own here in
    record {
      made = omega (arith, g.made z, ap share_if (eq-eqb z z refl));
      holds_nothing = omega (arith, g.holds, agrees.returns m.made_at (rw here refl));
      in_no_list = g.listed;
    }

-- a page that the account has in one place is held at most once
pub held-once : (a : Account) (m : MapId) (z page : ℕ) → places page a ≤ 1 → times_held m z page a ≤ 1
held-once a m z page one =
    omega (
      arith,
      one,
      count-less (is_holding m z page) (λ (h : Held). h.page == page) a.held
          (λ h e. and_left (eqb h.page page) _ e),
    )

front : (l : View) (a : Account) (m : MapId) (rs : List Return) (r : Return) → Agrees l a → m.lane.0 ≡ l.id →
    l.returns ≡ r ∷ rs → r.map ≡ m.made_at → times_held m r.zone r.page a ≡ 1
front l a m rs r agrees own here place =
    let g : Same (share_of m.made_at (l.map_at m.made_at) (l.mem_at m.made_at) (r ∷ rs)) (share m a) =
    known_returns l a m (r ∷ rs) agrees own here in
    let this : is_return m.made_at r.zone r.page r ≡ true =
    rw (eq-eqb r.page r.page refl, eq-eqb r.zone r.zone refl, eq-eqb r.map m.made_at place) refl in
    omega (
      arith,
      held-once a m r.zone r.page (agrees.one r.page),
      g.holds_page r.zone r.page,
      count-one (is_return m.made_at r.zone r.page) r rs,
      ap share_if this,
    )

released : (l : View) (a : Account) (m : MapId) (z page : ℕ) (rs : List Return) → Agrees l a → m.lane.0 ≡ l.id →
    l.returns ≡ rs → IsFront rs m.made_at z page → times_held m z page a ≡ 1
released l a m z page [] agrees own here f = absurd f
released l a m z page (r ∷ rs) agrees own here f =
    subst (λ k. times_held m k page a ≡ 1) f.1
    (subst (λ k. times_held m r.zone k a ≡ 1) f.2 (front l a m rs r agrees own here f.0))

bounces : (t : _) (l : View) (a : Account) → l.maxmem ≡ a.maxmem →
    IsTrue (could_bounce t l.maxmem) → IsTrue (could_bounce t a.maxmem)
bounces t l a e h = subst (λ k. IsTrue (could_bounce t k)) e h

pub agrees-may : (l : View) (a : Account) (c : HubCall) → Agrees l a → MayAsk l c → MayCall l.id c a
agrees-may l a (AttachTag t) agrees asks = (bounces t l a agrees.maxmem asks.0, asks.1)
agrees-may l a (CreateMap m t first_done) agrees asks =
    (asks.0, bounces t l a agrees.maxmem asks.1, (known l a m None agrees asks.0 asks.2).in_zones)
agrees-may l a (DestroyMap m z) agrees asks = (asks.0, idle l a m z.0 agrees asks.0 asks.1)
agrees-may l a (Grab m z need nowait) agrees asks = (asks.0, asks.1, idle l a m z.0 agrees asks.0 asks.2)
agrees-may l a (Release m z page) agrees asks = (asks.0, released l a m z.0 page.0 l.returns agrees asks.0 refl asks.1)
agrees-may l a TakeCallback agrees asks = tt
agrees-may l a (MemAlloc m t) agrees asks = (asks.0, (known_mem l a m None agrees asks.0 asks.1).mems)
agrees-may l a (MemFree m) agrees asks = (asks.0, (known_mem l a m (Some asks.1) agrees asks.0 asks.2).mems)
