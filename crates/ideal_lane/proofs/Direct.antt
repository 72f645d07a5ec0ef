-- If no byte can bounce, no chunk does.
use Rattle.std.proofs.Common.{◌≡◌, ℕ, zero, suc, ◌+◌, ◌||◌, ◌&&◌, not, Bool, true, false, cond, List, [], ◌∷◌, ◌++◌}
use Rattle.std.proofs.Common.{length}
use Rattle.std.proofs.Common.{refl, ap, sym, ◌∙◌, arith, take, drop, Some, None}
use Rattle.std.proofs.lemmas.Bool.Decides.{nat_tests}
use Rattle.std.specs.FinMap.{get, contains_key}
use Rattle.busdma_machine.specs.declared.machine.chunk.Chunk.{Chunk}
use Rattle.busdma_machine.specs.declared.machine.chunk.Entry.{Entry}
use Rattle.busdma_machine.specs.declared.tags.tag.TagLimits.{TagLimits}
use Rattle.busdma_machine.specs.Machine.Entry.{entry_addresses}
use Rattle.busdma_machine.specs.Runs.{byte_count}
use Rattle.busdma_machine.specs.Tags.Tag.{could_bounce}
use Rattle.busdma_rules.specs.Segments.Chunks.{chunk_limit, chunk_of, chunks_within, chunks_of_bytes, chunks_from}
use Rattle.busdma_rules.specs.Segments.Chunks.{bounced_of}
use Rattle.busdma_rules.specs.Segments.Chunks.{need_of}
use Rattle.ideal_lane.specs.State.{LaneState, LaneTag, LaneMap}
use Rattle.ideal_lane.specs.Standing.{StandsAt}
use Rattle.ideal_lane.specs.Loads.{limits_of, chunks_for, is_device, one_entry}
use Rattle.ideal_lane.specs.Maps.{bounces}
use Rattle.std.specs.Option.{option_map_or}

module _ (t : TagLimits) (maxmem : ℕ) (never : could_bounce t maxmem ≡ false) where
  unbounced : (at : ℕ) (bytes : List ℕ) → (chunk_of t maxmem at bytes).bounced ≡ false
  unbounced at bytes = rw never refl

  within : (n : ℕ) (rounded : Bool) (at : ℕ) (bytes : List ℕ) →
      bounced_of (chunks_within n t maxmem rounded at bytes) ≡ []
  within zero rounded at bytes = refl
  within (suc n) rounded at [] = refl
  within (suc n) rounded at (a ∷ bs) =
      let most = chunk_limit t maxmem rounded a in
      rw (unbounced at (take most (a ∷ bs))) (within n rounded (at + most) (drop most (a ∷ bs)))

  none_of : (xs ys : List Chunk) → bounced_of xs ≡ [] → bounced_of ys ≡ [] → bounced_of (xs ++ ys) ≡ []
  none_of [] ys h k = k
  none_of (x ∷ xs) ys h k = by x.bounced h (λ g. none_of xs ys g k)
    where
      by : (b : Bool) → cond b (x ∷ bounced_of xs) (bounced_of xs) ≡ [] →
          (bounced_of xs ≡ [] → bounced_of (xs ++ ys) ≡ []) →
          cond b (x ∷ bounced_of (xs ++ ys)) (bounced_of (xs ++ ys)) ≡ []
      by true h rest = absurd (cc)
      by false h rest = rest h

  from : (at : ℕ) (es : List Entry) → bounced_of (chunks_from t maxmem at es) ≡ []
  from at [] = refl
  from at (e ∷ es) =
      none_of (chunks_of_bytes t maxmem e.rounded at (entry_addresses e))
      (chunks_from t maxmem (at + byte_count e.parts) es)
      (within (length (entry_addresses e)) e.rounded at (entry_addresses e)) (from (at + byte_count e.parts) es)

-- if the end of memory is 0 and no alignment is asked for, nothing can bounce
nowhere : (t : TagLimits) → could_bounce (record t { alignment = 1 }) 0 ≡ false
nowhere t = grind (arith, nat_tests)

limits-are : (l : LaneState) (o : LaneMap) (t : LaneTag) → get l.tags o.tag ≡ Some t → limits_of l o ≡ t.limits
limits-are l o t e = rw e refl

-- the map of a memory needs no page
pub need-memory : (l : LaneState) (o : LaneMap) (es : List Entry) → need_of (chunks_for l o true es) ≡ 0
need-memory l o es =
    ap length (from (record (limits_of l o) { alignment = 1 }) 0 (nowhere (limits_of l o)) 0 (one_entry es))

-- a map without zone needs no page
pub need-direct : (l : LaneState) (k : ℕ) (o : LaneMap) (es : List Entry) →
    StandsAt l.maxmem l.tags l.mems k o → is_device l o ≡ false → o.zone ≡ None →
    need_of (chunks_for l o (contains_key l.mems k) es) ≡ 0
need-direct l k o es s plain zone = by (contains_key l.mems k) (s.direct zone)
  where
    kind : s.tag.device ≡ false
    kind = sym (ap (λ x. option_map_or (λ (t : LaneTag). t.device) x false) s.there) ∙ plain

    never : (b : Bool) → not b ≡ true → b ≡ false
    never true h = sym h
    never false h = refl

    by : (b : Bool) → (b || not (bounces l.maxmem s.tag)) ≡ true → need_of (chunks_for l o b es) ≡ 0
    by true h = need-memory l o es
    by false h =
        ap length (from (limits_of l o) l.maxmem (ap (λ t. could_bounce t l.maxmem) (limits-are l o s.tag s.there)
        ∙ sym (ap (λ d. not d && could_bounce s.tag.limits l.maxmem) kind) ∙ never (bounces l.maxmem s.tag) h) 0 es)
