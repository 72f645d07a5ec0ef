-- Which position a byte that is lent to write belongs to.
use Rattle.std.proofs.Common.{◌≡◌, ◌≢◌, ℕ, suc, ◌+◌, ◌==◌, ◌&&◌, ◌||◌, Bool, true, false, cond}
use Rattle.std.proofs.Common.{List, [], ◌∷◌, Some, None, slice_get, refl, sym, ap, ◌∙◌, arith}
use Rattle.std.specs.Prelude.{T}
use Rattle.std.specs.List.{list_any}
use Rattle.std.specs.Ordering.{nat_cmp}
use Rattle.std.specs.FinMap.Entries.{find, is_sorted, below_all}
use Rattle.std.proofs.lemmas.Map.Views.{exact_unsigned_eq}
use Rattle.busdma_machine.specs.declared.machine.chunk.Chunk.{Chunk}
use Rattle.busdma_rules.specs.declared.position.Position.{Position}
use Rattle.busdma_rules.specs.Lending.Loans.{Loan, lends, to_write}
use Rattle.phys_memory.specs.Memory.{FrameMemory}
use Rattle.ideal_wire.specs.Traces.{bus_at}
use Rattle.lane_state.specs.Held.{lent_bus, lent_byte, device_view, byte_among}
use Rattle.lane_state.specs.Kept.{Device}
use Rattle.lane_state.proofs.Finding.{T_parts, none-below, find-first, find-later}

-- the first of positions that lends a byte to write
record First (cs : List Chunk) (i : ℕ) (ps : List Position) (a : ℕ) : Type 0 where
  place : ℕ
  position : Position
  at : slice_get ps place ≡ Some position
  same : position.pa ≡ a
  lends : position.to_write ≡ true
  bus : lent_bus cs i ps a ≡ Some (bus_at cs (i + place) position.pa)

two_true : (a b : Bool) → (a && b) ≡ true → (a ≡ true) × (b ≡ true)
two_true true b h = (refl, h)
two_true false b h = absurd (cc)

first-of : (cs : List Chunk) (i : ℕ) (ps : List Position) (a : ℕ) →
    list_any (λ p. (p.pa == a) && to_write p) ps ≡ true → First cs i ps a
first-of cs i [] a h = absurd (cc)
first-of cs i (p ∷ ps) a h = by ((p.pa == a) && p.to_write) refl (first-of cs (i + 1) ps a) h
  where
    by : (b : Bool) → ((p.pa == a) && p.to_write) ≡ b →
        (list_any (λ q. (q.pa == a) && to_write q) ps ≡ true → First cs (i + 1) ps a) →
        (b || list_any (λ q. (q.pa == a) && to_write q) ps) ≡ true → First cs i (p ∷ ps) a
    by true e rest g =
        let two = two_true (p.pa == a) p.to_write e in
        let here : i ≡ i + 0 = omega arith in
        record {
          place = 0;
          position = p;
          at = refl;
          same = exact_unsigned_eq p.pa a two.0;
          lends = two.1;
          bus = ap (λ b. cond b (Some (bus_at cs i p.pa)) (lent_bus cs (i + 1) ps a)) e
              ∙ ap (λ j. Some (bus_at cs j p.pa)) here;
        }
    by false e rest g =
        let r = rest g in
        let there : i + 1 + r.place ≡ i + suc r.place = omega arith in
        record {
          place = suc r.place;
          position = r.position;
          at = r.at;
          same = r.same;
          lends = r.lends;
          bus = ap (λ b. cond b (Some (bus_at cs i p.pa)) (lent_bus cs (i + 1) ps a)) e ∙ r.bus
              ∙ ap (λ j. Some (bus_at cs j r.position.pa)) there;
        }

-- a loan that lends a byte to write, the position that does, and the byte at its bus address
pub record IsLent (devices : ℕ → Device) (es : List (ℕ × Loan)) (a : ℕ) : Type 0 where
  pub key : ℕ
  pub loan : Loan
  pub found : find nat_cmp key es ≡ Some loan
  pub place : ℕ
  pub position : Position
  pub at : slice_get loan.positions place ≡ Some position
  pub same : position.pa ≡ a
  pub lends : position.to_write ≡ true
  pub is : (m : FrameMemory) → byte_among devices m es a
      ≡ device_view (devices key) m (bus_at (devices key).chunks (0 + place) position.pa)

none-some : {X : Type 0} (x : X) → None ≡ Some x → ⊥
none-some x h = absurd (cc)

pub lent-among : (devices : ℕ → Device) (es : List (ℕ × Loan)) (a : ℕ) → T (is_sorted nat_cmp es) →
    list_any (λ e. lends to_write a e.1) es ≡ true → IsLent devices es a
lent-among devices [] a s h = absurd (cc)
lent-among devices (e ∷ es) a s h =
    let two = T_parts (below_all nat_cmp e.0 es) (is_sorted nat_cmp es) s in
    by (lends to_write a e.1) refl (none-below e.0 es two.0) (lent-among devices es a two.1) h
  where
    d : Device
    d = devices e.0

    unlent : (cs : List Chunk) (i : ℕ) (ps : List Position) →
        list_any (λ p. (p.pa == a) && to_write p) ps ≡ false → lent_bus cs i ps a ≡ None
    unlent cs i [] g = refl
    unlent cs i (p ∷ ps) g = off ((p.pa == a) && p.to_write) g (unlent cs (i + 1) ps)
      where
        off : (b : Bool) → (b || list_any (λ q. (q.pa == a) && to_write q) ps) ≡ false →
            (list_any (λ q. (q.pa == a) && to_write q) ps ≡ false → lent_bus cs (i + 1) ps a ≡ None) →
            cond b (Some (bus_at cs i p.pa)) (lent_bus cs (i + 1) ps a) ≡ None
        off true k rest = absurd (cc)
        off false k rest = rest k

    by : (b : Bool) → lends to_write a e.1 ≡ b → find nat_cmp e.0 es ≡ None →
        (list_any (λ f. lends to_write a f.1) es ≡ true → IsLent devices es a) →
        (b || list_any (λ f. lends to_write a f.1) es) ≡ true → IsLent devices (e ∷ es) a
    by true t gone rest g =
        let r = first-of d.chunks 0 e.1.positions a t in
        record {
          key = e.0;
          loan = e.1;
          found = find-first e es;
          place = r.place;
          position = r.position;
          at = r.at;
          same = r.same;
          lends = r.lends;
          is = λ m. ap (λ o. lent_byte d m o (byte_among devices m es a)) r.bus;
        }
    by false t gone rest g =
        let r = rest g in
        let ne : r.key ≢ e.0 =
        (λ q. none-some r.loan (sym gone ∙ ap (λ k. find nat_cmp k es) (sym q) ∙ r.found)) in
        record {
          key = r.key;
          loan = r.loan;
          found = find-later r.key e es ne ∙ r.found;
          place = r.place;
          position = r.position;
          at = r.at;
          same = r.same;
          lends = r.lends;
          is = λ m. ap (λ o. lent_byte d m o (byte_among devices m es a)) (unlent d.chunks 0 e.1.positions t)
              ∙ r.is m;
        }
