-- How loads end, by what is built of them.
use Rattle.std.proofs.Common.{◌≡◌, ℕ, ◌≤◌, ◌<◌, Bool, true, false, cond, List, [], ◌∷◌, length, Some, None}
use Rattle.std.proofs.Common.{refl, sym, ap, ◌∙◌, nat_le, unwrap_or, arith}
use Rattle.std.proofs.lemmas.Bool.{eq-eqb}
use Rattle.std.proofs.lemmas.Bool.Decides.{nat_tests}
use Rattle.std.proofs.lemmas.Map.Lookups.{exact_unsigned}
use Rattle.std.specs.Cmp.{nat_cmp_total}
use Rattle.std.specs.Ordering.{nat_cmp, eq_by_cmp}
use Rattle.std.specs.FinMap.{FinMap, get, insert, remove, get-insert, get-remove, same_map}
use Rattle.std.specs.List.{filter}
use Rattle.busdma_base.specs.declared.journals.answer.Answer.TheVariants.{Segments, Refused}
use Rattle.busdma_machine.specs.declared.report.Errno.TheVariants.{EFBIG}
use Rattle.busdma_machine.specs.declared.machine.address.Segment.{Segment}
use Rattle.busdma_machine.specs.declared.machine.chunk.Chunk.{Chunk}
use Rattle.busdma_machine.specs.declared.tags.tag.TagLimits.{TagLimits}
use Rattle.busdma_machine.specs.Bounce.AccountStep.{as_pages}
use Rattle.busdma_rules.specs.Lending.SyncEffects.{lost_by_forgetting}
use Rattle.busdma_rules.specs.Lending.Loans.{Loan, addresses_of, loan_of, new_loan, no_loan, to_write}
use Rattle.busdma_rules.specs.Lending.Loans.{unlent_positions}
use Rattle.ideal_lane.proofs.Lookups.{get_put, get_cut, put_same}
use Rattle.busdma_rules.specs.Segments.Building.{placed_pieces, tag_placed}
use Rattle.busdma_rules.specs.Segments.Segmentation.{segmentation}
use Rattle.ideal_lane.specs.IdealMemory.{forgotten}
use Rattle.ideal_lane.specs.Loads.{Asked, emptied, finished, limits_of, loaded, staged, unpaged}
use Rattle.ideal_lane.specs.State.{LaneMap, LaneState, Loaded}
use Rattle.ideal_lane.specs.Unloads.{loan_forgotten}

module _ (m : ℕ) (o : LaneMap) (load_at : ℕ) (x : Asked) (chunks : List Chunk) (pages : List ℕ) (l : LaneState) where
  abbrev t : TagLimits
  t = limits_of l o

  abbrev built : List Segment
  built = segmentation t (placed_pieces t chunks (as_pages pages))

  -- the segments are few enough, or too many
  pub finished-few : length built ≤ t.nsegments → finished m o load_at x chunks pages l ≡ record {
    lane = loaded m o load_at x (tag_placed t chunks (as_pages pages)) built pages l;
    answer = Segments built;
  }
  finished-few few =
      let test : nat_le (length built) t.nsegments ≡ true = grind (arith, nat_tests) in
      ap (λ b. cond b (record {
        lane = loaded m o load_at x (tag_placed t chunks (as_pages pages)) built pages l;
        answer = Segments built;
      }) (record { lane = unpaged m o pages l; answer = Refused EFBIG })) test

  pub finished-many : t.nsegments < length built →
      finished m o load_at x chunks pages l ≡ record { lane = unpaged m o pages l; answer = Refused EFBIG }
  finished-many many =
      let test : nat_le (length built) t.nsegments ≡ false = grind (arith, nat_tests) in
      ap (λ b. cond b (record {
        lane = loaded m o load_at x (tag_placed t chunks (as_pages pages)) built pages l;
        answer = Segments built;
      }) (record { lane = unpaged m o pages l; answer = Refused EFBIG })) test

-- ---- a load that is stored and ended leaves nothing but its pages

over : {X : Type 0} (b : Bool) (x y z : X) → cond b x (cond b y z) ≡ cond b x z
over true x y z = refl
over false x y z = refl

pub put-over : {X : Type 0} (m : FinMap nat_cmp X) (k : ℕ) (x v : X) → insert (insert m k x) k v ≡ insert m k v
put-over m k x v = same_map nat_cmp_total exact_unsigned (insert (insert m k x) k v) (insert m k v) (λ q.
    get-insert nat_cmp_total (insert m k x) k v q
    ∙ ap (cond (eq_by_cmp nat_cmp q k) (Some v)) (get-insert nat_cmp_total m k x q)
    ∙ over (eq_by_cmp nat_cmp q k) (Some v) (Some x) (get m q) ∙ sym (get-insert nat_cmp_total m k v q))

pub taken-out : {X : Type 0} (m : FinMap nat_cmp X) (k : ℕ) (x : X) → get m k ≡ None → remove (insert m k x) k ≡ m
taken-out m k x none = same_map nat_cmp_total exact_unsigned (remove (insert m k x) k) m (λ q.
    get-remove nat_cmp_total (insert m k x) k q
    ∙ ap (cond (eq_by_cmp nat_cmp q k) None) (get-insert nat_cmp_total m k x q)
    ∙ over (eq_by_cmp nat_cmp q k) None (Some x) (get m q)
    ∙ sym (get-remove nat_cmp_total m k q) ∙ gone q)
  where
    gone : (q : ℕ) → get (remove m k) q ≡ get m q
    gone q = get_cut m k q ∙ put_same (get m) k q None (sym none)

nothing-lost : (bytes : List ℕ) → addresses_of (filter to_write (unlent_positions bytes)) ≡ []
nothing-lost [] = refl
nothing-lost (a ∷ bytes) = nothing-lost bytes

pub stored-ended : (m : ℕ) (o : LaneMap) (bounced : List Chunk) (segments : List Segment) (pages : List ℕ)
    (coherent : Bool) (bytes : List ℕ) (l : LaneState) → get l.loans m ≡ None →
    (let stage = Loaded bounced segments pages in
    unpaged m (record o { tried = true; stage = stage }) pages (loan_forgotten m (record (staged m o stage l) {
      loans = insert l.loans m (new_loan coherent bytes);
    })) ≡ unpaged m o pages l)
stored-ended m o bounced segments pages coherent bytes l none =
    let stage = Loaded bounced segments pages in
    let loan = new_loan coherent bytes in
    let found : loan_of (insert l.loans m loan) m ≡ loan =
    ap (λ x. unwrap_or x no_loan) (get_put l.loans m loan m ∙ ap (λ b. cond b (Some loan) (get l.loans m))
    (eq-eqb m m refl)) in
    let lost : lost_by_forgetting (insert l.loans m loan) m ≡ [] =
    ap (λ (x : Loan). addresses_of (filter to_write x.positions)) found ∙ nothing-lost bytes in
    (λ i. record (unpaged m o pages l) {
      maps = put-over l.maps m (record o { tried = true; stage = stage })
          (record o { tried = true; stage = emptied pages }) i;
      loans = taken-out l.loans m loan none i;
      memory = ap (λ ks. forgotten ks l.memory) lost i;
    })
