-- Drivers that left their doors ran by the hub's history.
use Rattle.std.proofs.Common.{◌≡◌, ℕ, zero, suc, ◌+◌, ◌<◌, List, [], ◌∷◌, ◌++◌, length, map, take, drop, All, Some}
use Rattle.std.proofs.Common.{refl, sym}
use Rattle.std.proofs.Common.{ap, ◌∙◌, subst, arith, slice_get, unwrap_or}
use Rattle.std.proofs.lemmas.List.Elements.{All-nil, All-cons, All-head, All-tail, All-weaker}
use Rattle.busdma_machine.specs.declared.bounce.hold.HoldEntry.{HoldEntry}
use Rattle.busdma_base.specs.declared.scenarios.scenario.Scenario.{Scenario}
use Rattle.busdma_machine.specs.Bounce.Account.{Account}
use Rattle.busdma_machine.specs.Bounce.History.{IsSound, account_of}
use Rattle.busdma_machine.specs.Bounce.LaneEntries.{of_lane}
use Rattle.busdma_base.specs.Scenarios.Opening.{opening}
use Rattle.busdma_machine.proofs.Accounts.LaneEntries.{own-passes}
use Rattle.atomic_table.specs.Seated.{TableId}
use Rattle.bounce_hub.specs.Seen.{HubSeen}
use Rattle.turnstile.specs.declared.view.Start.{Start}
use Rattle.turnstile.specs.Start.{start_of}
use Rattle.ideal_lane.specs.State.{LaneState}
use Rattle.ideal_world.specs.World.{opening_world}
use Rattle.lane_core.specs.declared.lane.Lane.{Lane}
use Rattle.lane_core.specs.LaneIdeal.{ideal}
use Rattle.ideal_runs.specs.Merged.{AllRun, log_of}
use Rattle.ideal_runs.specs.Runs.{Log, Runs}
use Rattle.lane_threads.specs.Closing.{LanePass, OthersCame, ClosesAfter, hub_seen}
use Rattle.lane_threads.specs.PassDoor as pass
use Rattle.lane_rounds.specs.AtWork.{IsAtWork}
use Rattle.lane_run.specs.Parked.{ArePassed}
use Rattle.lane_run.specs.Seated.{AreFresh, AreSeated, Seat, seat_of}
use Rattle.lane_run.specs.Threads.{HasRunThread}
use Rattle.lane_run.proofs.SeatedLaws.{Rounded, seated-stays, started}

pub passed-more : (ws : List Seat) (ls : List Lane) (logs : List Log) (qs : List LanePass) (w : Seat)
    (l : Lane) (log : Log) (q : LanePass) → ArePassed ws ls logs qs →
    IsAtWork (seat_of w).first (ideal l) log (pass.seen q) → pass.door_place q ≡ (seat_of w).fixed →
    ArePassed (ws ++ w ∷ []) (ls ++ l ∷ []) (logs ++ log ∷ []) (qs ++ q ∷ [])
passed-more [] [] [] [] w l log q h is same = (is, same, tt)
passed-more (v ∷ ws) (k ∷ ls) (g ∷ logs) (r ∷ qs) w l log q h is same =
    (h.0, h.1, passed-more ws ls logs qs w l log q h.2 is same)
passed-more _ _ _ _ w l log q h is same = absurd h

-- the logs of drivers and of one more
pub map-snoc : {Q : Type 0} (items : Q → Log) (qs : List Q) (q : Q) → map items (qs ++ q ∷ []) ≡ map items qs ++ items
    q ∷ []
map-snoc items [] q = refl
map-snoc items (p ∷ qs) q = ap (λ ls. items p ∷ ls) (map-snoc items qs q)

-- of each driver its last state and its log, by what its pass knows, which is one of the turnstile
abbrev pub AreBack : LanePass → List Lane → List Lane → List Log → List LanePass → Type 0
AreBack first [] [] [] [] = Unit {0}
AreBack first (l ∷ ls) (m ∷ ms) (log ∷ logs) (q ∷ qs) =
    IsAtWork (ideal l) (ideal m) log (pass.seen q) × (q.turnstile ≡ first.turnstile) × (q.start ≡ first.start)
    × AreBack first ls ms logs qs
AreBack first _ _ _ _ = ⊥

pub back : (first : LanePass) (ls : List Lane) (ws : List Seat) (ms : List Lane) (logs : List Log)
    (qs : List LanePass) → AreSeated first ls ws → ArePassed ws ms logs qs → AreBack first ls ms logs qs
back first [] [] [] [] [] h k = tt
back first (l ∷ ls) (w ∷ ws) (m ∷ ms) (log ∷ logs) (q ∷ qs) h k = (
  subst (λ (x : LaneState). IsAtWork x (ideal m) log (pass.seen q)) h.0.began k.0,
  ap (λ (p : pass.Place). p.turnstile) k.1 ∙ h.0.turnstile,
  ap (λ (p : pass.Place). p.start) k.1 ∙ h.0.start,
  back first ls ws ms logs qs h.1 k.2,
)
back first [] [] (m ∷ ms) logs qs h k = absurd k
back first [] [] [] (log ∷ logs) qs h k = absurd k
back first [] [] [] [] (q ∷ qs) h k = absurd k
back first (l ∷ ls) (w ∷ ws) [] logs qs h k = absurd k
back first (l ∷ ls) (w ∷ ws) (m ∷ ms) [] qs h k = absurd k
back first (l ∷ ls) (w ∷ ws) (m ∷ ms) (log ∷ logs) [] h k = absurd k
back first _ _ ms logs qs h k = absurd h

pub tables : (first : LanePass) (id : TableId) (ls ms : List Lane) (logs : List Log) (qs : List LanePass) →
    first.turnstile ≡ id → AreBack first ls ms logs qs → All (λ q. q.turnstile ≡ id) qs
tables first id [] [] [] [] here h = All-nil (λ (q : LanePass). q.turnstile ≡ id)
tables first id (l ∷ ls) (m ∷ ms) (log ∷ logs) (q ∷ qs) here h =
    All-cons (λ (r : LanePass). r.turnstile ≡ id) q qs (h.1 ∙ here) (tables first id ls ms logs qs here h.3)
tables first id _ _ _ _ here h = absurd h

counts : (first : LanePass) (ls ms : List Lane) (logs : List Log) (qs : List LanePass) → AreBack first ls ms logs qs →
    (length logs ≡ length (map ideal ls)) × (length (map ideal ms) ≡ length (map ideal ls))
counts first [] [] [] [] h = (refl, refl)
counts first (l ∷ ls) (m ∷ ms) (log ∷ logs) (q ∷ qs) h =
    let r = counts first ls ms logs qs h.3 in (ap suc r.0, ap suc r.1)
counts first _ _ _ _ h = absurd h

Some-is : (l m : LaneState) → Some l ≡ Some m → l ≡ m
Some-is l m e = ap (λ o. unwrap_or o l) e

module _ (first : LanePass) (hub : HubSeen) where
  -- one driver ran by the hub's history, which has nothing more of it than its pass knew
  one-run : (l m : Lane) (log : Log) (q : LanePass) → IsAtWork (ideal l) (ideal m) log (pass.seen q) → q.start ≡
      first.start →
      OthersCame first hub q → Runs (ideal l) log (of_lane (ideal l).id hub.history) (ideal m)
  one-run l m log q w start others =
      let p = others start in
      let same : of_lane (ideal m).id hub.history ≡ of_lane (ideal m).id (pass.seen q).history =
      own-passes (ideal m).id (pass.seen q) (hub_seen q hub) p.0 w.served.served p.1 in
      let first_same : of_lane (ideal l).id hub.history ≡ of_lane (ideal l).id (pass.seen q).history =
      subst (λ n. of_lane n hub.history ≡ of_lane n (pass.seen q).history) w.own same in
      subst (λ es. Runs (ideal l) log es (ideal m)) (sym first_same) w.runs

  each-run : (j : ℕ) (ls ms : List Lane) (logs : List Log) (qs : List LanePass) → AreFresh first j ls →
      AreBack first ls ms logs qs → All (OthersCame first hub) qs →
      (i : ℕ) (l m : LaneState) → slice_get (map ideal ls) i ≡ Some l → slice_get (map ideal ms) i ≡ Some m →
      Runs l (log_of logs i) (of_lane (j + i) hub.history) m
  each-run j [] [] [] [] f h others i l m there end = absurd (cc)
  each-run j (k ∷ ls) (n ∷ ms) (log ∷ logs) (q ∷ qs) f h others zero l m there end =
      let number : (ideal k).id ≡ j + zero = f.0.number ∙ (let e : j ≡ j + 0 = omega arith in e) in
      subst (λ (x : ℕ × LaneState × LaneState). Runs x.1 log (of_lane x.0 hub.history) x.2)
      (λ t. (number t, Some-is (ideal k) l there t, Some-is (ideal n) m end t))
      (one-run k n log q h.0 h.2 (All-head (OthersCame first hub) q qs others))
  each-run j (k ∷ ls) (n ∷ ms) (log ∷ logs) (q ∷ qs) f h others (suc i) l m there end =
      let e : (j + 1) + i ≡ j + suc i = omega arith in
      subst (λ x. Runs l (log_of logs i) (of_lane x hub.history) m) e
      (each-run (j + 1) ls ms logs qs f.1 h.3 (All-tail (OthersCame first hub) q qs others) i l m there end)
  each-run j _ _ _ _ f h others i l m there end = absurd h

-- after the turnstile of a scenario's opening hub is closed
pub has-run : (s : Scenario) (names : ℕ) (first : LanePass) (ls ms : List Lane) (logs : List Log) (qs : List LanePass)
    (hub : HubSeen) → first.start ≡ started names s → names ≡ length ls + 1 → map ideal ls ≡ (opening_world s).lanes →
    AreFresh first 0 ls → AreBack first ls ms logs qs → ClosesAfter first qs hub → HasRunThread s ms logs hub
has-run s names first ls ms logs qs hub start count opened f h c =
    let here : Start HoldEntry Account = start_of names [] (opening s) in
    let same : c.start ≡ here = ap (λ o. unwrap_or o here) (sym c.started ∙ start) in
    let opens : hub.opening ≡ opening s = c.opening ∙ ap (λ (x : Start HoldEntry Account). x.fixed) same in
    let whole : hub.history ≡ c.added =
    c.begins ∙ ap (λ es. es ++ c.added) (ap (λ (x : Start HoldEntry Account). x.opening) same) in
    let n = counts first ls ms logs qs h in
    let named : All (λ e. e.lane.0 + 1 < names) hub.history =
    subst (λ (x : ℕ × List HoldEntry). All (λ e. e.lane.0 + 1 < x.0) x.1) (λ i. ((same i).names, sym whole i))
    c.drivers in
    let others : All (OthersCame first hub) qs = All-tail (OthersCame first hub) first qs c.others in
    record {
      begins = opens;
      run = record {
        sound = subst (λ a. IsSound a hub.history) opens c.legal.sound;
        account = ap (λ a. account_of a hub.history) (sym opens);
        drivers = subst (λ firsts. AllRun firsts logs hub.history (map ideal ms)) opened (record {
          logged = n.0;
          last = n.1;
          own =
              All-weaker (λ (e : HoldEntry). e.lane.0 + 1 < names) (λ (e : HoldEntry). e.lane.0 < length (map ideal ls))
              (λ e below. omega (arith, below, count, length-map ls)) hub.history named;
          each = λ i l m there end.
              let z : 0 + i ≡ i = omega arith in
              subst (λ x. Runs l (log_of logs i) (of_lane x hub.history) m) z
              (each-run first hub 0 ls ms logs qs f h others i l m there end);
        });
      };
    }
  where
    length-map : (ks : List Lane) → length (map ideal ks) ≡ length ks
    length-map [] = refl
    length-map (k ∷ ks) = ap suc (length-map ks)

-- what was written back through a slice of all values
take_back : {A : Type 0} (xs zs : List A) (n : ℕ) → n ≡ length xs → take n (xs ++ zs) ≡ xs
take_back xs zs n e = ap (λ k. take k (xs ++ zs)) e ∙ whole xs zs
  where
    whole : {A : Type 0} (xs zs : List A) → take (length xs) (xs ++ zs) ≡ xs
    whole [] zs = refl
    whole (x ∷ xs) zs = ap (λ l. x ∷ l) (whole xs zs)

-- all are seated after rounds over a slice of them all
pub seated-back : (first : LanePass) (ls : List Lane) (ws us vs : List Seat) (n : ℕ) → AreSeated first ls ws →
    n ≡ length ws → us ≡ ws → length vs ≡ length us → Rounded us vs →
    AreSeated first ls (take n (vs ++ drop (length vs) ws))
seated-back first ls ws us vs n h whole slice count same =
    let long : length vs ≡ length ws = count ∙ ap length slice in
    subst (AreSeated first ls) (sym (take_back vs (drop (length vs) ws) n (whole ∙ sym long)))
    (seated-stays first ls ws vs h long (subst (λ xs. Rounded xs vs) slice same))
