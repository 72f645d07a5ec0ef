-- If memory runs out, the bytes that a driver really holds are unchanged.
use Rattle.std.proofs.Common.{◌≡◌, ℕ, ◌++◌, List, [], ◌∷◌, Option, Some, None, refl, sym, ap, ◌∙◌}
use Rattle.std.specs.Cmp.{nat_cmp_total}
use Rattle.std.specs.List.{flat_map}
use Rattle.std.specs.Option.{option_map}
use Rattle.std.specs.Ordering.{nat_cmp}
use Rattle.std.specs.FinMap.{FinMap, get, entries, same_map, nat_cmp-IsAntisymmetric}
use Rattle.busdma_machine.specs.Machine.Page.{FrameBytes}
use Rattle.busdma_machine.specs.Machine.Wire.{with_bytes_of}
use Rattle.ideal_lane.specs.State.{LaneState}
use Rattle.lane_state.specs.declared.holdings.Holdings.{Holdings}
use Rattle.lane_state.specs.declared.kept.KeptMap.{KeptMap}
use Rattle.lane_state.specs.Changes.{KeepsState}
use Rattle.lane_state.specs.Kept.{device_of, map_of}
use Rattle.lane_state.specs.MapValues.{entry_values, map_values}
use Rattle.lane_state.specs.Wire.{held_pages, wire_of}
use Rattle.lane_state.proofs.MapValues.{entries-map_values, get-map_values}

-- the bounce pages of a map
abbrev map_pages : KeptMap → List FrameBytes
map_pages o = (device_of (Some o)).pages

joined : (es : List (ℕ × KeptMap)) →
    flat_map (λ (e : ℕ × List FrameBytes). e.1) (entry_values map_pages es) ≡ flat_map (λ e. map_pages e.1) es
joined [] = refl
joined (e ∷ es) = ap (λ ps. map_pages e.1 ++ ps) (joined es)

-- the pages of all maps follow from the pages of each map
pages-joined : (maps : FinMap nat_cmp KeptMap) →
    flat_map (λ (e : ℕ × List FrameBytes). e.1) (entries (map_values map_pages maps)) ≡ held_pages maps
pages-joined maps =
    ap (flat_map (λ (e : ℕ × List FrameBytes). e.1)) (entries-map_values map_pages maps) ∙ joined (entries maps)

-- a map is there or not, and has these pages
same-pages : (x y : Option KeptMap) → option_map map_of y ≡ option_map map_of x →
    (device_of y).pages ≡ (device_of x).pages → option_map map_pages y ≡ option_map map_pages x
same-pages None None there same = refl
same-pages None (Some y) there same = absurd (cc)
same-pages (Some x) None there same = absurd (cc)
same-pages (Some x) (Some y) there same = ap (λ ps. Some ps) same

module _ (h k : Holdings) (s : KeepsState h k) where
  there : (m : ℕ) → option_map map_of (get k.maps.map m) ≡ option_map map_of (get h.maps.map m)
  there m =
      sym (get-map_values map_of k.maps.map m) ∙ ap (λ (l : LaneState). get l.maps m) s.ideal
      ∙ get-map_values map_of h.maps.map m

  tables : map_values map_pages k.maps.map ≡ map_values map_pages h.maps.map
  tables = same_map nat_cmp_total nat_cmp-IsAntisymmetric _ _ (λ m.
      get-map_values map_pages k.maps.map m
      ∙ same-pages (get h.maps.map m) (get k.maps.map m) (there m) (s.bytes.pages m)
      ∙ sym (get-map_values map_pages h.maps.map m))

  pages : held_pages k.maps.map ≡ held_pages h.maps.map
  pages =
      sym (pages-joined k.maps.map)
      ∙ ap (λ t. flat_map (λ (e : ℕ × List FrameBytes). e.1) (entries t)) tables ∙ pages-joined h.maps.map

  pub same-wire : wire_of k ≡ wire_of h
  same-wire = λ i. with_bytes_of (pages i) (s.bytes.own i)
