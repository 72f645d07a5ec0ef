use Rattle.std.proofs.Common.{◌≡◌, is_some, sym, ap, ◌∙◌, subst}
use Rattle.std.specs.FinMap.{contains_key, get, remove}
use Rattle.busdma_machine.specs.declared.name.MapId.{MapId}
use Rattle.lane_state.specs.Awaiting.{AreOfMaps}
use Rattle.lane_state.proofs.Awaiting.{awaiting-ready, idle-unkept, less-other}
use Rattle.lane_state.proofs.Keeping.{idle-unloaded}
use Rattle.lane_state.proofs.OfMaps.{of-maps-less}
use Rattle.lane_state.specs.Covered.{AreOwn, AreReturning}
use Rattle.lane_tables.specs.Schedule.{Schedule}
use Rattle.busdma_rules.specs.Lending.Loans.{Loans}
use Rattle.lane_loads.proofs.waiting.undo_load.Goals as goal

pub drop_prepared-requires : goal.drop_prepared-requires
drop_prepared-requires c =
    let h = c.args.holdings.now in
    ap (λ (x : MapId). is_some (get h.loans.loans x.made_at)) c.map_id-id.ensures ∙ h.loaded c.args.map
    ∙ idle-unloaded (get h.maps.map c.args.map) c.requires.idle

pub invariant_of-holdings-clause-awaiting : goal.invariant_of-holdings-clause-awaiting
invariant_of-holdings-clause-awaiting c =
    let h = c.args.holdings.now in
    let k = c.args.map in
    let ls = c.drop_prepared.new.self.prepared in
    let prepared : ls ≡ remove h.loans.prepared k =
    c.drop_prepared.ensures.prepared ∙ ap (λ (x : MapId). remove h.loans.prepared x.made_at) c.map_id-id.ensures in
    awaiting-ready h.pages.now h.maxmem h.tags.map h.maps.map h.loans.prepared h.awaiting k ls
    (idle-unkept (get h.maps.map k) c.requires.idle) (less-other h.loans.prepared ls k prepared)

pub invariant_of-holdings-clause-ready : goal.invariant_of-holdings-clause-ready
invariant_of-holdings-clause-ready c =
    let h = c.args.holdings.now in
    let prepared : c.drop_prepared.new.self.prepared ≡ remove h.loans.prepared c.args.map =
    c.drop_prepared.ensures.prepared ∙ ap (λ (x : MapId). remove h.loans.prepared x.made_at) c.map_id-id.ensures in
    subst (AreOfMaps h.pages.now h.memories.map) (sym prepared)
    (of-maps-less h.pages.now h.memories.map h.loans.prepared h.ready c.args.map)

pub invariant_of-holdings-clause-loaded : goal.invariant_of-holdings-clause-loaded
invariant_of-holdings-clause-loaded c = λ k.
    ap (λ (ls : Loans). contains_key ls k) c.drop_prepared.ensures.loans ∙ c.args.holdings.now.loaded k

pub invariant_of-holdings-clause-own_returns : goal.invariant_of-holdings-clause-own_returns
invariant_of-holdings-clause-own_returns c =
    subst (λ (a : Schedule). AreOwn c.args.holdings.now.id.0 a.returns) (sym c.unpromise.ensures)
    c.args.holdings.now.own_returns

pub invariant_of-holdings-clause-returning : goal.invariant_of-holdings-clause-returning
invariant_of-holdings-clause-returning c =
    subst (λ (a : Schedule). AreReturning c.args.holdings.now.maps.map a.returns) (sym c.unpromise.ensures)
    c.args.holdings.now.returning
