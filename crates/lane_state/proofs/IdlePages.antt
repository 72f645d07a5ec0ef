-- The bytes that stay in a step of a map that had no page.
use Rattle.std.proofs.Common.{◌≡◌, ◌⊎◌, inl, inr, ℕ, ◌==◌, Bool, true, false, [], refl, ap, sym, ◌∙◌}
use Rattle.std.proofs.lemmas.Map.Views.{exact_unsigned_eq}
use Rattle.std.specs.FinMap.{get}
use Rattle.lane_state.specs.declared.holdings.Holdings.{Holdings}
use Rattle.lane_state.specs.Changes.{KeepsBytesBut, KeepsWhatStays}
use Rattle.lane_state.specs.Covered.{is_idle_map}
use Rattle.lane_state.specs.Held.{devices_of}
use Rattle.lane_state.specs.Kept.{device_of}
use Rattle.lane_state.proofs.Following.{stays-all}
use Rattle.lane_state.proofs.Keeping.{bytes-same, idle-there}

-- nothing was done
pub stays-same : (h : Holdings) → KeepsWhatStays h h
stays-same h = stays-all h h (bytes-same h)

-- the map was idle
pub stays-idle : (h k : Holdings) (m : ℕ) → is_idle_map (get h.maps.map m) ≡ true → KeepsBytesBut m h k →
    KeepsWhatStays h k
stays-idle h k m idle bytes = record { own = bytes.own; pages = λ q. by q (m == q) refl }
  where
    bare : (devices_of h.maps.map m).pages ≡ []
    bare =
        let there = idle-there (get h.maps.map m) idle in
        ap (λ d. d.pages) (ap device_of there.1 ∙ there.2.unheld)

    by : (q : ℕ) (b : Bool) → (m == q) ≡ b → ((devices_of k.maps.map q).pages ≡ (devices_of h.maps.map q).pages)
        ⊎ (((devices_of h.maps.map q).pages ≡ []) ⊎ ((devices_of k.maps.map q).pages ≡ []))
    by q true e = inr (inl (sym (ap (λ j. (devices_of h.maps.map j).pages) (exact_unsigned_eq m q e)) ∙ bare))
    by q false e = inl (bytes.pages q e)
