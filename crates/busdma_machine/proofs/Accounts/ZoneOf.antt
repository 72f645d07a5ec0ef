-- The zone of a tag is one of the zones, or the new one after all of them.
use Rattle.std.proofs.Common.{◌≡◌, ◌≢◌, suc, true, false, List, [], ◌∷◌, ◌++◌, length, refl, ap, arith, if◌then◌else◌}
use Rattle.busdma_machine.specs.declared.tags.tag.TagLimits.{TagLimits}
use Rattle.busdma_machine.specs.Bounce.Account.{Zone}
use Rattle.busdma_machine.specs.Bounce.Growth.{serves_tag, new_zone, zones_for, zone_for_tag}

pub zones_for_found : (t : TagLimits) (zs : List Zone) → zone_for_tag t zs ≢ length zs → zones_for t zs ≡ zs
zones_for_found t [] other = absurd (other refl)
zones_for_found t (z ∷ zs) other =
    (elim (serves_tag t z) as (λ v. (if v then 0 else suc (zone_for_tag t zs)) ≢ suc (length zs) →
    z ∷ (if v then zs else zones_for t zs) ≡ z ∷ zs) [
      | true ↦ λ o. refl
      | false ↦ λ o. ap (λ ys. z ∷ ys) (zones_for_found t zs (λ e. o (ap suc e)))
    ]) other

pub zones_for_none : (t : TagLimits) (zs : List Zone) →
    zone_for_tag t zs ≡ length zs → zones_for t zs ≡ zs ++ new_zone t ∷ []
zones_for_none t [] here = refl
zones_for_none t (z ∷ zs) here =
    (elim (serves_tag t z) as (λ v. (if v then 0 else suc (zone_for_tag t zs)) ≡ suc (length zs) →
    z ∷ (if v then zs else zones_for t zs) ≡ z ∷ (zs ++ new_zone t ∷ [])) [
      | true ↦ λ e. absurd (omega (arith, e))
      | false ↦ λ e. ap (λ ys. z ∷ ys) (zones_for_none t zs (omega (arith, e)))
    ]) here
