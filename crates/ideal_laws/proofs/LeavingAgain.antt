-- What each resend and callback that is refused or waits leaves of its driver and of the account.
use Rattle.std.proofs.Common.{◌≡◌, ℕ, ◌==◌, Bool, true, false, if◌then◌else◌, List, [], ◌∷◌}
use Rattle.std.proofs.Common.{length, take, drop, Option, Some, None, unwrap_or, refl, sym}
use Rattle.std.proofs.Common.{ap, ◌∙◌, subst, arith}
use Rattle.std.specs.FinMap.{get, contains_key}
use Rattle.std.proofs.lemmas.Bool.{eqb-true}
use Rattle.busdma_machine.specs.declared.bounce.hold.HubCall.TheVariants as call
use Rattle.busdma_machine.specs.declared.bounce.hold.HubReply.TheVariants as reply
use Rattle.busdma_machine.specs.declared.bounce.zone.Waiter.{Waiter}
use Rattle.busdma_machine.specs.declared.machine.address.Pa.{Pa}
use Rattle.busdma_machine.specs.declared.machine.bio.Bio.TheVariants.{Vector}
use Rattle.busdma_machine.specs.declared.name.MapId.{MapId}
use Rattle.busdma_machine.specs.declared.report.Report.{Report}
use Rattle.busdma_machine.specs.Bounce.Account.{Account, zone_at}
use Rattle.busdma_machine.specs.Bounce.AccountStep.{AccountReply, account_step, as_pages, called_from}
use Rattle.busdma_machine.specs.Bounce.Serving.{handed}
use Rattle.busdma_base.specs.declared.journals.answer.Answer.TheVariants as answer
use Rattle.busdma_rules.specs.Lending.Access.{cpu_read_answer, cpu_write_answer}
use Rattle.lane_agreement.specs.After.{addresses_of_pages}
use Rattle.lane_agreement.specs.View as view
use Rattle.lane_agreement.proofs.Places.{head-waits, waits-tells}
use Rattle.ideal_lane.specs.Asking.{Asking}
use Rattle.ideal_lane.specs.IdealMemory.{is_known}
use Rattle.ideal_lane.specs.Loads.{asked, chunks_for}
use Rattle.ideal_lane.specs.Loads.{load_judged}
use Rattle.ideal_lane.specs.Loads.{zone_of_map}
use Rattle.ideal_lane.specs.Outcomes.{Outcome, gives}
use Rattle.ideal_lane.specs.Sends.{Send, chain_bytes, cluster_bytes, copied, resend}
use Rattle.ideal_lane.specs.State.{LaneState, LaneMap, Stage, Waiting}
use Rattle.ideal_lane.specs.Turns.{called, called_in}
use Rattle.ideal_lane.specs.View.{in_zone, own_map}
use Rattle.ideal_lane.proofs.Refusing.{busy, judged}
use Rattle.ideal_laws.proofs.Leaving.{Agreed, HasGot, Left, LeftIn, Loading, finished-left, handed-length, load-left}
use Rattle.ideal_laws.proofs.Leaving.{same-addresses, take-length}

-- ---- resends

-- the load of the clusters of a send
abbrev pub loading_again : Send → Loading
loading_again s = record { map = s.map; bio = Vector s.clusters; items = s.items; nowait = true }

module _ (l : LaneState) (a : Account) (s : Send) where
  abbrev IsLeft : Asking Outcome → Type 0
  IsLeft = LeftIn (copied s l) a (Some (loading_again s))

  reported : (r : Report) → IsLeft (gives l (answer.Report r))
  reported r = tt

  pub resend-left : LeftIn (copied s l) a (Some (loading_again s)) (resend s l)
  resend-left =
      busy l IsLeft reported s.map _ (λ o there idle.
      judged l IsLeft reported (load_judged l s.map (Vector s.clusters)) _ (λ fine.
      judged l IsLeft reported (cpu_read_answer (is_known l.memory) l.loans (chain_bytes s l)) _ (λ reads.
      judged l IsLeft reported (cpu_write_answer l.loans (cluster_bytes s l)) _ (λ writes.
      load-left (copied s l) a (loading_again s) (asked s.map (Vector s.clusters) true s.items (copied s l)) refl refl
      refl))))

-- ---- callbacks

zone-is : (o : LaneMap) (z need : ℕ) → own_map (Some o) ≡ Some (record { zone = z; stage = view.Waiting need }) →
    zone_of_map o ≡ z
zone-is o z need e = by o.zone e
  where
    by : (y : Option ℕ) → in_zone o.stage y ≡ Some (record { zone = z; stage = view.Waiting need }) → unwrap_or y 0 ≡ z
    by None e = absurd (cc)
    by (Some k) e = ap view.zone_in e

module _ (l : LaneState) (a : Account) (n : MapId) (pages : List Pa) where
  -- the head of the callback list is taken, with its pages
  abbrev head_pages : Waiter → List ℕ
  head_pages w = take w.need (zone_at a w.zone.0).avail

  abbrev head_taken : Bool → Waiter → List Waiter → AccountReply
  head_taken mine w ws =
      if mine then record {
        account = handed (record a { ready = ws }) w.map w.zone.0 w.need;
        reply = reply.Called w.map (as_pages (head_pages w));
      }
      else record { account = a; reply = reply.Nothing }

  called-got : (o : LaneMap) → get l.maps n.made_at ≡ Some o → (rs : List Waiter) → a.ready ≡ rs →
      (called_from rs l.id a).reply ≡ reply.Called n pages → Agreed l a →
      HasGot l a (drop 1 a.ready) n.made_at o (addresses_of_pages pages) (called_from rs l.id a).account
  called-got o there [] is e agreed = absurd (cc)
  called-got o there (w ∷ ws) is e agreed = by (w.map.lane.0 == l.id) refl e
    where
      by : (b : Bool) → (w.map.lane.0 == l.id) ≡ b → (head_taken b w ws).reply ≡ reply.Called n pages →
          HasGot l a (drop 1 a.ready) n.made_at o (addresses_of_pages pages) (head_taken b w ws).account
      by false t e = absurd (cc)
      by true t e =
          let own : w.map.lane.0 ≡ l.id = eqb-true w.map.lane.0 l.id t in
          let here : own_map (get l.maps w.map.made_at)
          ≡ Some (record { zone = w.zone.0; stage = view.Waiting w.need }) =
          waits-tells (own_map (get l.maps w.map.made_at)) w.zone.0 w.need
          (omega (arith, head-waits w ws a is, (agreed.1.names w.map own).waits w.zone.0 w.need)) in
          let same : w.map ≡ n = cc in
          let same_pages : as_pages (head_pages w) ≡ pages = cc in
          let zone : w.zone.0 ≡ zone_of_map o =
          sym (zone-is o w.zone.0 w.need
          (ap own_map (sym there ∙ ap (λ (m : MapId). get l.maps m.made_at) (sym same)) ∙ here)) in
          let pages_is : head_pages w ≡ addresses_of_pages pages =
          sym (same-addresses (head_pages w)) ∙ ap addresses_of_pages same_pages in
          let rest : ws ≡ drop 1 a.ready = sym (ap (drop 1) is) in
          record {
            first =
                subst (λ ps. ps ≡ take (length ps) (zone_at a (zone_of_map o)).avail) pages_is
                (subst (λ z. head_pages w ≡ take (length (head_pages w)) (zone_at a z).avail) zone
                (take-length w.need (zone_at a w.zone.0).avail));
            account =
                handed-length (record a { ready = ws }) w.map w.zone.0 w.need
                ∙ (λ i. record (handed a (record { lane = record { 0 = own i }; made_at = (same i).made_at }) (zone i)
                (length (pages_is i))) {
                  ready = rest i;
                });
          }

  abbrev b : Account
  b = (account_step l.id call.TakeCallback a).account

  -- a callback's load; it does not wait again
  abbrev pub loading_called : Loading
  loading_called = record { map = n.made_at; bio = Vector []; items = []; nowait = true }

  pub callback-left : (account_step l.id call.TakeCallback a).reply ≡ reply.Called n pages →
      Left l a (Some loading_called) (drop 1 a.ready)
      (called n.made_at (get l.maps n.made_at) (addresses_of_pages pages) l)
      (account_step l.id call.TakeCallback a).account
  callback-left e = by (get l.maps n.made_at) refl
    where
      staged-left : (o : LaneMap) → get l.maps n.made_at ≡ Some o → (s : Stage) →
          Left l a (Some loading_called) (drop 1 a.ready) (called_in n.made_at o s (addresses_of_pages pages) l) b
      staged-left o there (Waiting w) =
          finished-left l a loading_called o there (drop 1 a.ready) w.load_at (asked n.made_at w.bio false w.items l)
          (chunks_for l o (contains_key l.mems n.made_at) (asked n.made_at w.bio false w.items l).entries)
          (addresses_of_pages pages) b (called-got o there a.ready refl e)
      staged-left o there _ = tt

      by : (y : Option LaneMap) → get l.maps n.made_at ≡ y →
          Left l a (Some loading_called) (drop 1 a.ready) (called n.made_at y (addresses_of_pages pages) l) b
      by None q = tt
      by (Some o) q = staged-left o q o.stage
