-- An entry of one lane changes nothing that concerns another lane.
use Rattle.std.proofs.Common.{◌≡◌, ◌≢◌, ℕ, Bool, true, false, List, [], ◌∷◌, take, refl, sym, ◌∙◌, subst, eqb, leb}
use Rattle.std.proofs.Common.{if◌then◌else◌, Option, Some, None, All, IsTrue}
use Rattle.std.proofs.lemmas.Bool.{eqb-true}
use Rattle.std.proofs.lemmas.List.Elements.{All-head, All-tail}
use Rattle.busdma_machine.specs.declared.name.MapId.{MapId}
use Rattle.busdma_machine.specs.declared.bounce.zone.Waiter.{Waiter}
use Rattle.busdma_machine.specs.declared.tags.tag.TagLimits.{TagLimits}
use Rattle.busdma_machine.specs.declared.bounce.hold.HubCall.{HubCall}
use Rattle.busdma_machine.specs.declared.bounce.hold.HubCall.TheVariants.{AttachTag, CreateMap, DestroyMap, Grab}
use Rattle.busdma_machine.specs.declared.bounce.hold.HubCall.TheVariants.{Release}
use Rattle.busdma_machine.specs.declared.bounce.hold.HubCall.TheVariants.{TakeCallback, MemAlloc, MemFree}
use Rattle.busdma_machine.specs.declared.bounce.hold.HubReply.TheVariants.{Nothing, Granted, Queued, NoPages, Called}
use Rattle.busdma_machine.specs.declared.bounce.hold.HoldEntry.{HoldEntry}
use Rattle.busdma_machine.specs.Bounce.Account.{Account, zone_at, free}
use Rattle.busdma_machine.specs.Bounce.Growth.{zone_for_tag, with_zone_for, growth_for_map}
use Rattle.busdma_machine.specs.Bounce.Serving.{handed, waiting_at_tail}
use Rattle.busdma_machine.specs.Bounce.MemoryRuns.{frames_of}
use Rattle.busdma_machine.specs.Bounce.AccountStep.{AccountReply, account_step, as_pages}
use Rattle.busdma_machine.specs.Bounce.AccountStep.{grabbed, called_from, memory_placed}
use Rattle.busdma_machine.specs.Bounce.Conditions.{MayCall, IsIdle}
use Rattle.busdma_machine.specs.Bounce.History.{IsSound, after_entry, account_of}
use Rattle.busdma_machine.specs.Bounce.Share.{Same, share}
use Rattle.busdma_machine.specs.Bounce.SameFor.{SameFor}
use Rattle.busdma_machine.specs.Tags.Tag.{could_bounce}
use Rattle.busdma_machine.proofs.Accounts.Names.{Same-refl, Same-trans, same_map-apart, name-attached, name-created}
use Rattle.busdma_machine.proofs.Accounts.Names.{name-without_map, name-grabbed, name-released, name-placed}
use Rattle.busdma_machine.proofs.Accounts.Names.{name-without_memory, name-shorter, name-handed}

called_other : (m : MapId) (a : Account) (caller : ℕ) (ws : List Waiter) → a.ready ≡ ws → caller ≢ m.lane.0 →
    Same (share m a) (share m (called_from ws caller a).account)
called_other m a caller [] e other = Same-refl (share m a)
called_other m a caller (w ∷ ws) e other =
    (elim (eqb w.map.lane.0 caller) as (λ v. eqb w.map.lane.0 caller ≡ v →
    (let o : AccountReply = if v then record {
      account = handed (record a { ready = ws }) w.map w.zone.0 w.need;
      reply = Called w.map (as_pages (take w.need (zone_at a w.zone.0).avail));
    } else record {
      account = a;
      reply =
          Nothing;
    } in Same (share m a) (share m o.account))) [
      | true ↦
          λ t. (let off : _ = same_map-apart m.lane.0 m w.map refl
          (λ k. other (sym (eqb-true w.map.lane.0 caller t) ∙ k)) in
          Same-trans (share m a) (share m (record a { ready = ws })) _ (name-shorter m a w ws e off)
          (name-handed m w.map off (record a { ready = ws }) w.zone.0 w.need))
      | false ↦ λ t. Same-refl (share m a)
    ]) refl

-- an allowed call of one lane changes nothing that the account has of another lane's names
pub names-step : (m : MapId) (a : Account) (caller : ℕ) (c : HubCall) → MayCall caller c a → caller ≢ m.lane.0 →
    Same (share m a) (share m (account_step caller c a).account)
names-step m a caller (AttachTag t) may other = name-attached m t a
names-step m a caller (CreateMap n t first_done) may other =
    name-created m n (same_map-apart m.lane.0 m n refl (λ e. other (sym may.0 ∙ e))) t first_done a
names-step m a caller (DestroyMap n z) may other =
    name-without_map m n (same_map-apart m.lane.0 m n refl (λ e. other (sym may.0 ∙ e))) a z.0
names-step m a caller (Grab n z need nowait) may other =
    name-grabbed m n (same_map-apart m.lane.0 m n refl (λ e. other (sym may.0 ∙ e))) a z.0 need nowait
names-step m a caller (Release n z page) may other =
    name-released m n (same_map-apart m.lane.0 m n refl (λ e. other (sym may.0 ∙ e))) a z.0 page.0
names-step m a caller TakeCallback may other = called_other m a caller a.ready refl other
names-step m a caller (MemAlloc n t) may other =
    name-placed m n (same_map-apart m.lane.0 m n refl (λ e. other (sym may.0 ∙ e))) a _ _
names-step m a caller (MemFree n) may other =
    name-without_memory m n (same_map-apart m.lane.0 m n refl (λ e. other (sym may.0 ∙ e))) a

pub names-history : (m : MapId) (a : Account) (es : List HoldEntry) → IsSound a es →
    All (λ e. e.lane.0 ≢ m.lane.0) es → Same (share m a) (share m (account_of a es))
names-history m a [] sound others = Same-refl (share m a)
names-history m a (e ∷ es) sound others =
    Same-trans (share m a) (share m (after_entry e a)) _
    (names-step m a e.lane.0 e.call sound.0.may (All-head (λ (x : HoldEntry). x.lane.0 ≢ m.lane.0) e es others))
    (names-history m (after_entry e a) es sound.1 (All-tail (λ (x : HoldEntry). x.lane.0 ≢ m.lane.0) e es others))

pub IsIdle-same : (lane : ℕ) (a b : Account) (m : MapId) (z : ℕ) → SameFor lane a b →
    m.lane.0 ≡ lane → IsIdle m z a → IsIdle m z b
IsIdle-same lane a b m z s own idle =
    record {
      made = (s.names m own).made z ∙ idle.made;
      holds_nothing = (s.names m own).holds
          ∙ idle.holds_nothing;
      in_no_list = (s.names m own).listed ∙ idle.in_no_list;
    }

could_bounce-same : (t : TagLimits) (a b : Account) → b.maxmem ≡ a.maxmem →
    IsTrue (could_bounce t a.maxmem) → IsTrue (could_bounce t b.maxmem)
could_bounce-same t a b e may = subst (λ k. IsTrue (could_bounce t k)) (sym e) may

-- the condition of a call depends only on these numbers
pub MayCall-same : (lane : ℕ) (a b : Account) (c : HubCall) → SameFor lane a b → MayCall lane c a → MayCall lane c b
MayCall-same lane a b (AttachTag t) s may = (could_bounce-same t a b s.maxmem may.0, may.1)
MayCall-same lane a b (CreateMap m t first_done) s may =
    (may.0, could_bounce-same t a b s.maxmem may.1, (s.names m may.0).in_zones ∙ may.2)
MayCall-same lane a b (DestroyMap m z) s may = (may.0, IsIdle-same lane a b m z.0 s may.0 may.1)
MayCall-same lane a b (Grab m z need nowait) s may = (may.0, may.1, IsIdle-same lane a b m z.0 s may.0 may.2)
MayCall-same lane a b (Release m z page) s may = (may.0, (s.names m may.0).holds_page z.0 page.0 ∙ may.1)
MayCall-same lane a b TakeCallback s may = tt
MayCall-same lane a b (MemAlloc m t) s may = (may.0, (s.names m may.0).mems ∙ may.1)
MayCall-same lane a b (MemFree m) s may = (may.0, (s.names m may.0).mems ∙ may.1)

-- no call changes how much memory there is
maxmem_grabbed : (m : MapId) (z need : ℕ) (nowait : Bool) (a : Account) →
    (grabbed m z need nowait a).account.maxmem ≡ a.maxmem
maxmem_grabbed m z need nowait a =
    elim (leb need (free a z)) as (λ v. let o : AccountReply = if v
    then record { account = handed a m z need; reply = Granted (as_pages (take need (zone_at a z).avail)) }
    else (if nowait then record { account = a; reply = NoPages }
    else record { account = waiting_at_tail a m z need; reply = Queued (free a z) }) in o.account.maxmem ≡ a.maxmem) [
      | true ↦ refl
      | false ↦
          (elim nowait as (λ v. let o : AccountReply = if v then record { account = a; reply = NoPages }
          else record { account = waiting_at_tail a m z need; reply = Queued (free a z) } in
          o.account.maxmem ≡ a.maxmem) [ true ↦ refl | false ↦ refl ])
    ]

maxmem_called : (ws : List Waiter) (lane : ℕ) (a : Account) → (called_from ws lane a).account.maxmem ≡ a.maxmem
maxmem_called [] lane a = refl
maxmem_called (w ∷ ws) lane a =
    elim (eqb w.map.lane.0 lane) as (λ v. let o : AccountReply = if v
    then record {
      account = handed (record a { ready = ws }) w.map w.zone.0 w.need;
      reply = Called w.map (as_pages (take w.need (zone_at a w.zone.0).avail));
    } else record {
      account = a;
      reply =
          Nothing;
    } in o.account.maxmem ≡ a.maxmem) [ true ↦ refl | false ↦ refl ]

maxmem_placed : (m : MapId) (n : ℕ) (first : Option ℕ) (a : Account) → (memory_placed m n first a).account.maxmem
    ≡ a.maxmem
maxmem_placed m n None a = refl
maxmem_placed m n (Some first) a = refl

maxmem_either : (k : ℕ) (b c : Account) (v : Bool) → b.maxmem ≡ k → c.maxmem ≡ k → (if v then c else b).maxmem ≡ k
maxmem_either k b c true s t = t
maxmem_either k b c false s t = s

pub maxmem-step : (lane : ℕ) (c : HubCall) (a : Account) → (account_step lane c a).account.maxmem ≡ a.maxmem
maxmem-step lane (AttachTag t) a = refl
maxmem-step lane (CreateMap m t first_done) a =
    maxmem_either a.maxmem _ _ (growth_for_map t first_done (with_zone_for t a) (zone_for_tag t a.zones)).made refl refl
maxmem-step lane (DestroyMap m z) a = refl
maxmem-step lane (Grab m z need nowait) a = maxmem_grabbed m z.0 need nowait a
maxmem-step lane (Release m z page) a = refl
maxmem-step lane TakeCallback a = maxmem_called a.ready lane a
maxmem-step lane (MemAlloc m t) a = maxmem_placed m _ _ a
maxmem-step lane (MemFree m) a = refl

pub maxmem-history : (a : Account) (es : List HoldEntry) → (account_of a es).maxmem ≡ a.maxmem
maxmem-history a [] = refl
maxmem-history a (e ∷ es) = maxmem-history (after_entry e a) es ∙ maxmem-step e.lane.0 e.call a

-- sound entries of other lanes change nothing that concerns a lane
pub SameFor-history : (lane : ℕ) (a : Account) (es : List HoldEntry) → IsSound a es →
    All (λ e. e.lane.0 ≢ lane) es → SameFor lane a (account_of a es)
SameFor-history lane a es sound others = record {
  names = λ m own. names-history m a es sound (subst (λ k. All (λ e. e.lane.0 ≢ k) es) (sym own) others);
  maxmem = maxmem-history a es;
}

-- The condition of a lane's call still holds after each sound entry of another lane.
pub MayCall-stays : (lane : ℕ) (c : HubCall) (a : Account) (es : List HoldEntry) → MayCall lane c a → IsSound a es →
    All (λ e. e.lane.0 ≢ lane) es → MayCall lane c (account_of a es)
MayCall-stays lane c a es may sound others =
    MayCall-same lane a (account_of a es) c (SameFor-history lane a es sound others) may

-- The frames of each memory of a lane stay the same after sound entries of other lanes.
pub frames-stay : (lane : ℕ) (m : MapId) (a : Account) (es : List HoldEntry) → m.lane.0 ≡ lane → IsSound a es →
    All (λ e. e.lane.0 ≢ lane) es → frames_of m (account_of a es).mems ≡ frames_of m a.mems
frames-stay lane m a es own sound others = ((SameFor-history lane a es sound others).names m own).frames
