-- Nested zones stay nested, and a new one may join them.
use Rattle.std.proofs.Common.{◌≡◌, ℕ, ◌+◌, ◌-◌, ◌<◌, ◌≤◌, ◌==◌, ◌&&◌, Bool, true, false, List, length, get_or, refl}
use Rattle.std.proofs.Common.{sym}
use Rattle.std.proofs.Common.{ap, ◌∙◌, ◌++◌, not, subst, arith, inl, inr, nat_le, slice_get, if◌then◌else◌}
use Rattle.std.proofs.lemmas.Bool.Decides.{eqb_tells, nat_tests}
use Rattle.std.specs.List.Sorted.{IsPartitionedBy}
use Rattle.std.proofs.lemmas.List.{get_or_append_left}
use Rattle.std.proofs.lemmas.Option.{slice_get-get_or}
use Rattle.busdma_machine.specs.declared.tags.tag.TagLimits.{TagLimits}
use Rattle.busdma_machine.specs.Bounce.Account.{Account, zone_at}
use Rattle.busdma_machine.specs.Bounce.KeptZones.{KeepsZones}
use Rattle.bounce_hub.specs.declared.hub_zone.HubZone.{HubZone}
use Rattle.bounce_hub.specs.declared.pool.Pool.{Pool}
use Rattle.bounce_hub.specs.Growing.{serves, place_for, nests_behind, nested_with}
use Rattle.bounce_hub.specs.Pools.{AreNested, Matches, PoolAgrees}
use Rattle.bounce_hub.proofs.Placing.{first-early, first-late}

pub nested-kept : (n : ℕ) (a b : Account) → AreNested n a → KeepsZones a b → AreNested n b
nested-kept n a b nested kept = record {
  count = omega (arith, nested.count, kept.count);
  lowaddr =
      λ y z le below.
      omega (
        arith,
        nested.lowaddr y z le below,
        kept.lowaddr y (omega (arith, le, below, nested.count)),
        kept.lowaddr z (omega (arith, below, nested.count)),
      );
  alignment =
      λ y z le below.
      omega (
        arith,
        nested.alignment y z le below,
        kept.alignment y (omega (arith, le, below, nested.count)),
        kept.alignment z (omega (arith, below, nested.count)),
      );
}

pub nested-after : (p q : Pool) (a b : Account) → q.nested ≡ p.nested → AreNested p.nested a → KeepsZones a b →
    AreNested q.nested b
nested-after p q a b same nested kept = subst (λ n. AreNested n b) (sym same) (nested-kept p.nested a b nested kept)

-- a zone lies no higher than another, and is aligned no less
record IsBelow (b : Account) (z : ℕ) (a : Account) (y : ℕ) : Type 0 where
  lowaddr : (zone_at b z).lowaddr ≤ (zone_at a y).lowaddr
  alignment : (zone_at a y).alignment ≤ (zone_at b z).alignment

-- one more zone is nested
nested-longer : (n : ℕ) (a b : Account) → AreNested n a → KeepsZones a b → n < length b.zones →
    ((y : ℕ) → y + 1 ≡ n → IsBelow b n a y) → AreNested (n + 1) b
nested-longer n a b nested kept inside last = record {
  count = omega (arith, inside);
  lowaddr =
      λ y z le below.
      elim (eqb_tells z n) as (λ _. (zone_at b z).lowaddr ≤ (zone_at b y).lowaddr) [
        | inl h ↦
            (elim (eqb_tells y n) as (λ _. (zone_at b z).lowaddr ≤ (zone_at b y).lowaddr) [
              | inl g ↦ subst (λ k. (zone_at b z).lowaddr ≤ (zone_at b k).lowaddr) (h.1 ∙ sym g.1) (omega arith)
              | inr g ↦
                  (let before : y < n = omega (arith, le, h.1, g.1) in
                  subst (λ k. (zone_at b k).lowaddr ≤ (zone_at b y).lowaddr) (sym h.1)
                  (omega (
                    arith,
                    (last (n - 1) (omega (arith, before))).lowaddr,
                    nested.lowaddr y (n - 1) (omega (arith, before)) (omega (arith, before)),
                    kept.lowaddr y (omega (arith, before, nested.count)),
                  )))
            ])
        | inr h ↦ (nested-kept n a b nested kept).lowaddr y z le (omega (arith, below, h.1))
      ];
  alignment =
      λ y z le below.
      elim (eqb_tells z n) as (λ _. (zone_at b y).alignment ≤ (zone_at b z).alignment) [
        | inl h ↦
            (elim (eqb_tells y n) as (λ _. (zone_at b y).alignment ≤ (zone_at b z).alignment) [
              | inl g ↦ subst (λ k. (zone_at b k).alignment ≤ (zone_at b z).alignment) (h.1 ∙ sym g.1) (omega arith)
              | inr g ↦
                  (let before : y < n = omega (arith, le, h.1, g.1) in
                  subst (λ k. (zone_at b y).alignment ≤ (zone_at b k).alignment) (sym h.1)
                  (omega (
                    arith,
                    (last (n - 1) (omega (arith, before))).alignment,
                    nested.alignment y (n - 1) (omega (arith, before)) (omega (arith, before)),
                    kept.alignment y (omega (arith, before, nested.count)),
                  )))
            ])
        | inr h ↦ (nested-kept n a b nested kept).alignment y z le (omega (arith, below, h.1))
      ];
}

-- the place after the last zone
behind-last : (p : Pool) (a b : Account) (s : HubZone) → PoolAgrees p a → Matches s b (length p.zones.items) →
    nests_behind (slice_get p.zones.items (length p.zones.items - 1)) s ≡ true →
    (y : ℕ) → y + 1 ≡ length p.zones.items → IsBelow b (length p.zones.items) a y
behind-last p a b s agrees here holds y e =
    let inside : length p.zones.items - 1 < length p.zones.items = omega (arith, e) in
    let last : HubZone = get_or p.zones.items (length p.zones.items - 1) s in
    let old : Matches last a (length p.zones.items - 1) = agrees.zones (length p.zones.items - 1) s inside in
    let at : length p.zones.items - 1 ≡ y = omega (arith, e) in
    let tests : (nat_le s.zone.lowaddr last.zone.lowaddr && nat_le last.zone.alignment s.zone.alignment) ≡ true =
    ap (λ o. nests_behind o s) (sym (slice_get-get_or p.zones.items (length p.zones.items - 1) s inside)) ∙ holds in
    subst (λ k. IsBelow b (length p.zones.items) a k) at (record {
      lowaddr = grind (arith, nat_tests, tests, old.lowaddr, here.lowaddr);
      alignment = grind (arith, nat_tests, tests, old.alignment, here.alignment);
    })

-- a new zone comes after all others
pub nested-joined : (p : Pool) (a b : Account) (s : HubZone) → PoolAgrees p a → KeepsZones a b →
    length b.zones ≡ length a.zones + 1 → Matches s b (length p.zones.items) →
    AreNested (nested_with p.nested p.zones.items s) b
nested-joined p a b s agrees kept longer here =
    let test : Bool = (p.nested == length p.zones.items)
    && nests_behind (slice_get p.zones.items (length p.zones.items - 1)) s in
    (elim test as (λ v. test ≡ v → AreNested (if v then p.nested + 1 else p.nested) b) [
      | true ↦ λ holds.
          (let all : p.nested ≡ length p.zones.items = grind (arith, nat_tests, holds) in
          let nests : nests_behind (slice_get p.zones.items (length p.zones.items - 1)) s ≡ true =
          grind (arith, nat_tests, holds) in
          nested-longer p.nested a b agrees.nested kept (omega (arith, all, agrees.count, longer))
          (λ y e. subst (λ k. IsBelow b k a y) (sym all)
          (behind-last p a b s agrees here nests y (e ∙ all))))
      | false ↦ λ fails. nested-kept p.nested a b agrees.nested kept
    ]) refl

-- a zone that is aligned no more and lies no lower serves no more tags
fails-above : (a low_y low_z aligned_y aligned_z x : ℕ) → low_z ≤ low_y → aligned_y ≤ aligned_z →
    not (nat_le a aligned_z && nat_le low_z x) ≡ true → not (nat_le a aligned_y && nat_le low_y x) ≡ true
fails-above a low_y low_z aligned_y aligned_z x low aligned fails = grind (arith, nat_tests)

-- among nested zones, those that serve a tag come after those that do not
pub nested-partitioned : (p : Pool) (a : Account) (t : TagLimits) (front back : List HubZone) → PoolAgrees p a →
    p.zones.items ≡ front ++ back → length front ≡ p.nested → IsPartitionedBy (λ s. not (serves t s)) front
nested-partitioned p a t front back agrees parts count y z d le below fails =
    let at : (k : ℕ) → k < length front → Matches (get_or front k d) a k =
    (λ k inside. subst (λ s. Matches s a k)
    (ap (λ ss. get_or ss k d) parts ∙ get_or_append_left front back d k inside)
    (agrees.zones k d (omega (arith, inside, count, agrees.nested.count, agrees.count)))) in
    let low_y : (get_or front y d).zone.lowaddr ≡ (zone_at a y).lowaddr = (at y (omega (arith, le, below))).lowaddr in
    let low_z : (get_or front z d).zone.lowaddr ≡ (zone_at a z).lowaddr = (at z below).lowaddr in
    let aligned_y : (get_or front y d).zone.alignment ≡ (zone_at a y).alignment =
    (at y (omega (arith, le, below))).alignment in
    let aligned_z : (get_or front z d).zone.alignment ≡ (zone_at a z).alignment = (at z below).alignment in
    fails-above t.alignment (get_or front y d).zone.lowaddr (get_or front z d).zone.lowaddr
    (get_or front y d).zone.alignment (get_or front z d).zone.alignment t.lowaddr.0
    (omega (arith, low_y, low_z, agrees.nested.lowaddr y z le (omega (arith, below, count))))
    (omega (arith, aligned_y, aligned_z, agrees.nested.alignment y z le (omega (arith, below, count)))) fails

-- the first zone that serves a tag; the nested zones come before the others
module _ (p : Pool) (a : Account) (t : TagLimits) (front back : List HubZone) (place : ℕ) (agrees : PoolAgrees p a)
    (parts : p.zones.items ≡ front ++ back) (count : length front ≡ p.nested)
    (found : IsPartitionedBy (λ s. not (serves t s)) front → place ≡ place_for t front) where
  first : place ≡ place_for t front
  first = found (nested-partitioned p a t front back agrees parts count)

  pub place-early : place < p.nested → place ≡ place_for t p.zones.items
  place-early inside =
      first ∙ sym (first-early (serves t) front back (omega (arith, first, inside, count)))
      ∙ sym (ap (place_for t) parts)

  pub place-late : p.nested ≤ place → (other : ℕ) → other ≡ place_for t back →
      p.nested + other ≡ place_for t p.zones.items
  place-late past other is =
      omega (
        arith,
        first-late (serves t) front back (omega (arith, first, past, count)),
        ap (place_for t) parts,
        is,
        count,
      )
