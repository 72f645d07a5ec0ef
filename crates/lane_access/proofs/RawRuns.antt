-- Device addresses of one page, and where their bytes lie.
use Rattle.std.proofs.Common.{◌≡◌, ℕ, zero, suc, ◌+◌, ◌*◌, ◌/◌, ◌%◌, ◌<◌, ◌≤◌, true, List, [], ◌∷◌, ◌++◌, map, Option}
use Rattle.std.proofs.Common.{Some}
use Rattle.std.proofs.Common.{None, option_map, is_some, unwrap_or, refl, sym, ap, ◌∙◌, arith}
use Rattle.std.proofs.lemmas.List.{map-append}
use Rattle.std.specs.List.{AllByRecursion}
use Rattle.busdma_machine.specs.declared.machine.address.Extent.{Extent}
use Rattle.busdma_machine.specs.Runs.{addresses, run_of}
use Rattle.busdma_rules.specs.Iommu.Space.{Space, frame_of_page, translated}
use Rattle.loan_table.proofs.Extending.{addresses-push}
use Rattle.loan_table.proofs.Stretches.{run_of_sum}

-- what holds of extents and of one more
pub all-push : (P : Extent → Type 0) (es : List Extent) (e : Extent) → AllByRecursion P es → P e →
    AllByRecursion P (es ++ e ∷ [])
all-push P [] e h k = (k, tt)
all-push P (x ∷ es) e h k = (h.0, all-push P es e h.1 k)

module _ (s : Space) where
  abbrev raw : ℕ → ℕ
  raw a = unwrap_or (translated s a) 0

  some-frame : (o : Option ℕ) (x y : ℕ) →
      is_some (option_map (λ f. 4096 * f + x) o) ≡ is_some (option_map (λ f. 4096 * f + y) o)
  some-frame None x y = refl
  some-frame (Some f) x y = refl

  further : (o : Option ℕ) (x i y : ℕ) → y ≡ x + i → is_some (option_map (λ f. 4096 * f + x) o) ≡ true →
      unwrap_or (option_map (λ f. 4096 * f + y) o) 0 ≡ unwrap_or (option_map (λ f. 4096 * f + x) o) 0 + i
  further None x i y e h = absurd (cc)
  further (Some f) x i y e h = omega (arith, e)

  offset : (o : Option ℕ) (x : ℕ) → x < 4096 → is_some (option_map (λ f. 4096 * f + x) o) ≡ true →
      unwrap_or (option_map (λ f. 4096 * f + x) o) 0 % 4096 ≡ x
  offset None x low h = absurd (cc)
  offset (Some f) x low h = omega (arith, low)

  -- if one address of a page is reached, the others are too
  pub page-reached : (a i : ℕ) → a % 4096 + i < 4096 → is_some (translated s (a + i)) ≡ is_some (translated s a)
  page-reached a i h =
      let e : (a + i) / 4096 ≡ a / 4096 = omega (arith, h) in
      ap (λ p. is_some (option_map (λ f. 4096 * f + (a + i) % 4096) (frame_of_page s.runs p))) e
      ∙ some-frame (frame_of_page s.runs (a / 4096)) ((a + i) % 4096) (a % 4096)

  -- the bytes of a device page are at the same distances in their frame
  pub page-raw : (a i : ℕ) → a % 4096 + i < 4096 → is_some (translated s a) ≡ true → raw (a + i) ≡ raw a + i
  page-raw a i h some =
      let e : (a + i) / 4096 ≡ a / 4096 = omega (arith, h) in
      ap (λ p. unwrap_or (option_map (λ f. 4096 * f + (a + i) % 4096) (frame_of_page s.runs p)) 0) e
      ∙ further (frame_of_page s.runs (a / 4096)) (a % 4096) i ((a + i) % 4096) (omega (arith, h)) some

  pub raw-offset : (a : ℕ) → is_some (translated s a) ≡ true → raw a % 4096 ≡ a % 4096
  raw-offset a some = offset (frame_of_page s.runs (a / 4096)) (a % 4096) (omega arith) some

  run-from : (a i n : ℕ) → a % 4096 + i + n ≤ 4096 → is_some (translated s a) ≡ true →
      map raw (run_of (a + i) n) ≡ run_of (raw a + i) n
  run-from a i zero h some = refl
  run-from a i (suc n) h some =
      let e : a + i + 1 ≡ a + (i + 1) = omega arith in
      let f : raw a + i + 1 ≡ raw a + (i + 1) = omega arith in
      ap (λ x. x ∷ map raw (run_of (a + i + 1) n)) (page-raw a i (omega (arith, h)) some)
      ∙ ap (λ xs. (raw a + i) ∷ xs)
      (ap (λ b. map raw (run_of b n)) e ∙ run-from a (i + 1) n (omega (arith, h)) some
      ∙ ap (λ b. run_of b n) (sym f))

  -- the bytes at addresses of a page follow one another
  pub raw-run : (a n : ℕ) → a % 4096 + n ≤ 4096 → is_some (translated s a) ≡ true →
      map raw (run_of a n) ≡ run_of (raw a) n
  raw-run a n h some =
      let e : a ≡ a + 0 = omega arith in
      let f : raw a + 0 ≡ raw a = omega arith in
      ap (λ b. map raw (run_of b n)) e ∙ run-from a 0 n (omega (arith, h)) some ∙ ap (λ b. run_of b n) f

  -- the extents of the first bytes, and one of the next
  pub raw-more : (es : List Extent) (e : Extent) (addr done : ℕ) → addresses es ≡ map raw (run_of addr done) →
      e.pa.0 ≡ raw (addr + done) → (addr + done) % 4096 + e.len ≤ 4096 → is_some (translated s (addr + done)) ≡ true →
      addresses (es ++ e ∷ []) ≡ map raw (run_of addr (done + e.len))
  raw-more es e addr done before is short some =
      addresses-push es e
      ∙ ap (λ xs. xs ++ run_of e.pa.0 e.len) before
      ∙ ap (λ b. map raw (run_of addr done) ++ run_of b e.len) is
      ∙ ap (λ xs. map raw (run_of addr done) ++ xs) (sym (raw-run (addr + done) e.len short some))
      ∙ sym (ap (map raw) (run_of_sum addr done e.len) ∙ map-append raw (run_of addr done) (run_of (addr + done) e.len))
