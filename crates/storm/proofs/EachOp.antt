-- Each operation of a storm's script is valid after those before it.
use Rattle.std.proofs.Common.{◌≡◌, ℕ, ◌≤◌, List}
use Rattle.std.proofs.Common.{[], ◌∷◌, ◌++◌, ◌⊎◌, inl, inr, refl, arith}
use Rattle.std.proofs.lemmas.List.{length-replicate}
use Rattle.std.specs.List.{flat_map, AllByRecursion}
use Rattle.busdma_base.specs.declared.scenarios.scenario.PageRun.{PageRun}
use Rattle.busdma_base.specs.declared.scenarios.script.Item.{Item}
use Rattle.busdma_base.specs.declared.scenarios.script.Op.{Op}
use Rattle.busdma_base.specs.declared.scenarios.script.Op.TheVariants as op
use Rattle.busdma_machine.specs.Each.{EachAfter}
use Rattle.busdma_machine.specs.Runs.{run_of}
use Rattle.busdma_base.specs.Scenarios.Names.{IsMade}
use Rattle.busdma_base.specs.Scenarios.Operations.{about_item, map_at}
use Rattle.busdma_base.specs.Scenarios.Script.{IsItem, IsOp}
use Rattle.busdma_base.specs.Scenarios.Valid.{LoadsFrom}
use Rattle.program_rules.specs.declared.transfer.Transfer.{Transfer}
use Rattle.program_rules.specs.Storms.Scenario.{round_at, storm_rounds, storm_setup}
use Rattle.program_rules.specs.Storms.Transfer.{to_device, from_device}
use Rattle.storm.proofs.SmallTransfers.{IsSmall, round_cases}

-- an operation is valid at each place after the opening
abbrev IsValidBehind : Op → Type 0
IsValidBehind o = (rest : List Op) → IsOp (storm_setup ++ rest) o

all_append : {X : Type 0} (P : X → Type 0) (xs ys : List X) → AllByRecursion P xs → AllByRecursion P ys →
    AllByRecursion P (xs ++ ys)
all_append P [] ys none bs = bs
all_append P (x ∷ xs) ys (a, more) bs = (a, all_append P xs ys more bs)

all_rounds : (P : Op → Type 0) (f : ℕ → List Op) → ((r : ℕ) → AllByRecursion P (f r)) → (rs : List ℕ) →
    AllByRecursion P (flat_map f rs)
all_rounds P f each [] = tt
all_rounds P f each (r ∷ rs) = all_append P (f r) (flat_map f rs) (each r) (all_rounds P f each rs)

each_behind : (ops rest : List Op) → AllByRecursion IsValidBehind ops → EachAfter IsOp (storm_setup ++ rest) ops
each_behind [] rest all = tt
each_behind (o ∷ ops) rest (valid, more) = (valid rest, each_behind ops (rest ++ o ∷ []) more)

map_made : (m : ℕ) (rest : List Op) → (m ≡ 1) ⊎ (m ≡ 2) → IsMade (storm_setup ++ rest) (map_at m)
map_made m rest (inl e) = rw e refl
map_made m rest (inr e) = rw e refl

-- an operation of a map that accesses nothing and has no items
abbrev OfMap : (ℕ → Op) → Type 0
OfMap make = (m : ℕ) → (m ≡ 1) ⊎ (m ≡ 2) → IsValidBehind (make m)

await_valid : OfMap op.Await
await_valid m is rest =
    record {
      new = tt;
      made = (map_made m rest is, tt);
      within = tt;
      whole = tt;
      read = omega arith;
      written = omega arith;
      items = tt;
      own_items = tt;
      listed = omega arith;
      loaded = omega arith;
      clusters = tt;
    }

unload_valid : OfMap op.Unload
unload_valid m is rest =
    record {
      new = tt;
      made = (map_made m rest is, tt);
      within = tt;
      whole = tt;
      read = omega arith;
      written = omega arith;
      items = tt;
      own_items = tt;
      listed = omega arith;
      loaded = omega arith;
      clusters = tt;
    }

item_valid : (i : Item) (m : ℕ) (rest : List Op) → (m ≡ 1) ⊎ (m ≡ 2) → (about_item i).uses ≡ map_at m →
    (about_item i).reads ≤ 4096 → (about_item i).writes ≤ 4096 → IsItem (storm_setup ++ rest) i
item_valid i m rest is uses reads writes =
    record { made = rw uses (map_made m rest is); read = reads; written = writes }

to_device_valid : (t : Transfer) → IsSmall t → AllByRecursion IsValidBehind (to_device t)
to_device_valid t small = (
  λ rest. record {
    new = tt;
    made = tt;
    within = tt;
    whole = tt;
    read = omega arith;
    written = rw (length-replicate t.touched t.byte) (omega arith);
    items = tt;
    own_items = tt;
    listed = omega arith;
    loaded = omega arith;
    clusters = tt;
  },
  (
    λ rest. record {
      new = tt;
      made = (map_made t.map rest small.map, tt);
      within = tt;
      whole = tt;
      read = omega arith;
      written = omega arith;
      items = (
        item_valid _ t.map rest small.map refl (omega arith) (omega arith),
        (
          item_valid _ t.map rest small.map refl (omega arith) (omega arith),
          (item_valid _ t.map rest small.map refl (omega arith) (omega arith), tt),
        ),
      );
      own_items = (refl, (refl, (refl, tt)));
      listed = omega arith;
      loaded = omega (arith, small.short);
      clusters = tt;
    },
    (
      await_valid t.map small.map,
      (unload_valid t.map small.map, tt),
    ),
  ),
)

from_device_valid : (t : Transfer) → IsSmall t → AllByRecursion IsValidBehind (from_device t)
from_device_valid t small = (
  λ rest. record {
    new = tt;
    made = (map_made t.map rest small.map, tt);
    within = tt;
    whole = tt;
    read = omega arith;
    written = omega arith;
    items = (
      item_valid _ t.map rest small.map refl (omega arith) (omega arith),
      (
        item_valid _ t.map rest small.map refl (omega arith)
            (rw (length-replicate t.touched t.byte) (omega arith)),
        (item_valid _ t.map rest small.map refl (omega arith) (omega arith), tt),
      ),
    );
    own_items = (refl, (refl, (refl, tt)));
    listed = omega arith;
    loaded = omega (arith, small.short);
    clusters = tt;
  },
  (
    await_valid t.map small.map,
    (
      λ rest. record {
        new = tt;
        made = tt;
        within = tt;
        whole = tt;
        read = omega arith;
        written = omega arith;
        items = tt;
        own_items = tt;
        listed = omega arith;
        loaded = omega arith;
        clusters = tt;
      },
      (unload_valid t.map small.map, tt),
    ),
  ),
)

-- each operation of a script is valid
opening_valid : (ops : List Op) → EachAfter IsOp storm_setup ops → EachAfter IsOp [] (storm_setup ++ ops)
opening_valid ops behind = (
  record {
    new = record { well_formed = refl; fresh = refl };
    made = tt;
    within = tt;
    whole = tt;
    read = omega arith;
    written = omega arith;
    items = tt;
    own_items = tt;
    listed = omega arith;
    loaded = omega arith;
    clusters = tt;
  },
  (
    record {
      new = record { well_formed = refl; fresh = refl };
      made = (refl, tt);
      within = tt;
      whole = tt;
      read = omega arith;
      written = omega arith;
      items = tt;
      own_items = tt;
      listed = omega arith;
      loaded = omega arith;
      clusters = tt;
    },
    (
      record {
        new = record { well_formed = refl; fresh = refl };
        made = (refl, tt);
        within = tt;
        whole = tt;
        read = omega arith;
        written = omega arith;
        items = tt;
        own_items = tt;
        listed = omega arith;
        loaded = omega arith;
        clusters = tt;
      },
      behind,
    ),
  ),
)

pub each_valid : (n x : ℕ) → EachAfter IsOp [] (storm_setup ++ storm_rounds n x)
each_valid n x =
    opening_valid (storm_rounds n x)
    (each_behind (storm_rounds n x) []
    (all_rounds IsValidBehind (round_at x)
    (λ r. round_cases (AllByRecursion IsValidBehind) to_device_valid from_device_valid _ _) (run_of 0 n)))

-- no load of a storm is of a bio
pub each_loads_from : (pages : List PageRun) (n x : ℕ) → AllByRecursion (LoadsFrom pages)
    (storm_setup ++ storm_rounds n x)
each_loads_from pages n x =
    let ops : List Op = storm_rounds n x in
    let each : AllByRecursion (LoadsFrom pages) ops =
    all_rounds (LoadsFrom pages) (round_at x)
    (λ r. round_cases (AllByRecursion (LoadsFrom pages)) (λ t small. (tt, (tt, (tt, (tt, tt)))))
    (λ t small. (tt, (tt, (tt, (tt, tt))))) _ _)
    (run_of 0 n) in
    (tt, (tt, (tt, each)))
