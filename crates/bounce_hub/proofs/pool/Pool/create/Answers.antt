use Rattle.std.proofs.Common.{refl, ◌∙◌, arith}
use Rattle.bounce_hub.proofs.Creating.{create-inside, create-small, create-not, create-made}
use Rattle.bounce_hub.proofs.ZoneGrowth.{place-is}
use Rattle.bounce_hub.proofs.pool.Pool.create.Goals as goal

pub grow-requires : goal.grow-requires
grow-requires c = record {
  account = c.requires.allowed.account;
  agrees = c.requires.allowed.agrees;
  fits = c.requires.allowed.fits;
  place = c.place_for-place.ensures.is
      ∙ place-is c.args.tag.now c.args.self.now c.requires.allowed.account c.requires.allowed.agrees;
}

pub index_mut-requires : goal.index_mut-requires
index_mut-requires c =
    omega (
      arith,
      c.grow.new.self.zones.ok,
      create-inside c.args.self.now c.grow.new.self c.args.tag.now c.args.first_done c.args.map
          c.place_for-place.result c.wanted_by_map-wanted.result c.in_ok-added.added c.in_ok-zone.zone
          c.requires.allowed.account c.requires.allowed.agrees c.requires.allowed.fits c.place_for-place.ensures.is
          c.in_ok-zone.ensures
          c.wanted_by_map-wanted.ensures c.in_ok-added.ensures.grows,
    )

pub overflow_add-index_mut : goal.overflow_add-index_mut
overflow_add-index_mut c =
    omega (
      arith,
      c.requires.few,
      c.in_ok-added.ensures.owed,
      create-small c.args.self.now c.grow.new.self c.args.tag.now c.args.first_done c.args.map c.place_for-place.result
          c.wanted_by_map-wanted.result c.in_ok-added.added c.in_ok-zone.zone c.requires.allowed.account
          c.requires.allowed.agrees c.requires.allowed.fits c.place_for-place.ensures.is c.in_ok-zone.ensures
          c.wanted_by_map-wanted.ensures
          c.in_ok-added.ensures.grows c.index_mut.result.now c.index_mut.ensures.value,
    )

pub returns-then-made-clause-steps : goal.returns-then-made-clause-steps
returns-then-made-clause-steps c = λ a agrees fits may.
    create-made c.args.self.now c.grow.new.self c.args.tag.now c.args.first_done c.args.map c.place_for-place.result
    c.wanted_by_map-wanted.result c.in_ok-added.added c.in_ok-zone.zone a agrees fits c.place_for-place.ensures.is
    c.in_ok-zone.ensures
    c.wanted_by_map-wanted.ensures c.in_ok-added.ensures.grows
    _ c.index_mut.result.now c.is_made-made.result c.index_mut.ensures.value
    (record { bank = refl; nested = refl; maxmem = refl; max_bpages = refl }) refl refl refl c.is_made-made.ensures
    c.if-made.true

pub returns-else-made-clause-steps : goal.returns-else-made-clause-steps
returns-else-made-clause-steps c = λ a agrees fits may.
    create-not c.args.self.now c.grow.new.self c.args.tag.now c.args.first_done c.args.map c.place_for-place.result
    c.wanted_by_map-wanted.result c.in_ok-added.added c.in_ok-zone.zone a agrees fits c.place_for-place.ensures.is
    c.in_ok-zone.ensures
    c.wanted_by_map-wanted.ensures c.in_ok-added.ensures.grows
    c.is_made-made.result c.is_made-made.ensures c.if-made.false
