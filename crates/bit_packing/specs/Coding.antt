-- What makes bits of things such that they can be had back, put together for structs and arrays.
use Rattle.std.proofs.Common.{◌≡◌, ℕ, zero, suc, ◌+◌, ◌*◌, Bool, true, false, ◌&&◌, ◌==◌, List, [], ◌∷◌, ◌++◌, length, take, drop, refl, sym, ap, ◌∙◌, subst, arith}
use Rattle.std.specs.List.{list_all}
use Rattle.std.proofs.lemmas.Bool.{eqb-true, eq-eqb, and_parts, and_from, or_parts, or_from}
use Rattle.std.proofs.lemmas.List.{take-append-drop, length-append, length-take-le, length-drop}
use Rattle.bit_packing.specs.declared.value.Value.{Value}
use Rattle.bit_packing.specs.Fitting.{Test, pass_each, fits_fields}
use Rattle.bit_packing.specs.Packing.{Pack, first_highest, first_lowest}
use Rattle.bit_packing.specs.Voids.{Marks, repeated, has_marked_one}
use Rattle.bit_packing.specs.MarkLemmas.{marked-joined, parts_same}

-- Things that pass a test are packed into so many bits, of which the marked ones are 0. All such bits are those of one
-- such thing, and of no other.
pub record IsCoding {A : Type 0} (width : ℕ) (marks : Marks) (test : A → Bool) (pack : A → List Bool) : Type 0 where
  pub marked : length marks ≡ width
  pub size : (x : A) → test x ≡ true → length (pack x) ≡ width
  pub clear : (x : A) → test x ≡ true → has_marked_one marks (pack x) ≡ false
  pub found : (bits : List Bool) → length bits ≡ width → has_marked_one marks bits ≡ false → (x : A) × ((test x ≡ true) × (pack x ≡ bits))
  pub only : (x y : A) → test x ≡ true → test y ≡ true → pack x ≡ pack y → x ≡ y

-- ---- two things, the second one above the first

module _ {A B : Type 0} (low high : ℕ) (marks more : Marks) (test : A → Bool) (test_more : B → Bool) (pack : A → List Bool) (pack_more : B → List Bool) where
  both_coded : IsCoding low marks test pack → IsCoding high more test_more pack_more
      → IsCoding (low + high) (marks ++ more) (λ (x : A × B). test x.0 && test_more x.1) (λ (x : A × B). pack x.0 ++ pack_more x.1)
  both_coded one other = record {
    marked = length-append marks more ∙ ap (λ n. n + length more) one.marked ∙ ap (λ n. low + n) other.marked;
    size = λ x h. let p = and_parts (test x.0) (test_more x.1) h in
        length-append (pack x.0) (pack_more x.1) ∙ ap (λ n. n + length (pack_more x.1)) (one.size x.0 p.0) ∙ ap (λ n. low + n) (other.size x.1 p.1);
    clear = λ x h. let p = and_parts (test x.0) (test_more x.1) h in
        marked-joined marks more (pack x.0) (pack_more x.1) (one.size x.0 p.0 ∙ sym one.marked)
        ∙ or_from (has_marked_one marks (pack x.0)) (has_marked_one more (pack_more x.1)) (one.clear x.0 p.0) (other.clear x.1 p.1);
    found = λ bits e m. cut bits e m;
    only = λ x y h g e.
        let p = and_parts (test x.0) (test_more x.1) h in
        let q = and_parts (test y.0) (test_more y.1) g in
        let same = parts_same (pack x.0) (pack y.0) (pack_more x.1) (pack_more y.1) (one.size x.0 p.0 ∙ sym (one.size y.0 q.0)) e in
        let first = one.only x.0 y.0 p.0 q.0 same.0 in
        let second = other.only x.1 y.1 p.1 q.1 same.1 in
        ap (λ a. (a, x.1)) first ∙ ap (λ b. (y.0, b)) second;
  }
    where
      cut : (bits : List Bool) → length bits ≡ low + high → has_marked_one (marks ++ more) bits ≡ false
          → (x : A × B) × (((test x.0 && test_more x.1) ≡ true) × (pack x.0 ++ pack_more x.1 ≡ bits))
      cut bits e m =
          let lower = length-take-le low bits (omega arith) in
          let upper : length (drop low bits) ≡ high = omega (arith, length-drop low bits) in
          let again = take-append-drop low bits in
          let clear = or_parts (has_marked_one marks (take low bits)) (has_marked_one more (drop low bits))
          (sym (marked-joined marks more (take low bits) (drop low bits) (lower ∙ sym one.marked)) ∙ ap (λ l. has_marked_one (marks ++ more) l) again ∙ m) in
          let x = one.found (take low bits) lower clear.0 in
          let y = other.found (drop low bits) upper clear.1 in
          ((x.0, y.0), (and_from (test x.0) (test_more y.0) x.1.0 y.1.0, ap (λ l. l ++ pack_more y.0) x.1.1 ∙ ap (λ l. take low bits ++ l) y.1.1 ∙ again))

-- ---- the values of a struct's fields

fields_split : (test : Test) (tests : List Test) (v : Value) (vs : List Value) → fits_fields (test ∷ tests) (v ∷ vs) ≡ true → (fits_fields tests vs && test v) ≡ true
fields_split test tests v vs h =
    let p = and_parts (suc (length vs) == suc (length tests)) (test v && pass_each tests vs) h in
    let q = and_parts (test v) (pass_each tests vs) p.1 in
    let e = eqb-true (suc (length vs)) (suc (length tests)) p.0 in
    and_from (fits_fields tests vs) (test v) (and_from (length vs == length tests) (pass_each tests vs) (eq-eqb (length vs) (length tests) (omega arith)) q.1) q.0

fields_joined : (test : Test) (tests : List Test) (v : Value) (vs : List Value) → (fits_fields tests vs && test v) ≡ true → fits_fields (test ∷ tests) (v ∷ vs) ≡ true
fields_joined test tests v vs h =
    let p = and_parts (fits_fields tests vs) (test v) h in
    let q = and_parts (length vs == length tests) (pass_each tests vs) p.0 in
    let e = eqb-true (length vs) (length tests) q.0 in
    and_from (suc (length vs) == suc (length tests)) (test v && pass_each tests vs) (eq-eqb (suc (length vs)) (suc (length tests)) (omega arith)) (and_from (test v) (pass_each tests vs) p.1 q.1)

no_value : (test : Test) (tests : List Test) → fits_fields (test ∷ tests) [] ≡ true → ⊥
no_value test tests h =
    let p = and_parts (0 == suc (length tests)) true h in
    let e = eqb-true 0 (suc (length tests)) p.0 in
    omega arith

pub no_fields : IsCoding 0 [] (fits_fields []) (first_highest [])
no_fields = record {
  marked = refl;
  size = λ x h. refl;
  clear = λ x h. refl;
  found = λ bits e m. none bits e;
  only = λ x y h g e. same x y h g;
}
  where
    none : (bits : List Bool) → length bits ≡ 0 → (x : List Value) × ((fits_fields [] x ≡ true) × (first_highest [] x ≡ bits))
    none [] e = ([], (refl, refl))
    none (b ∷ bits) e = absurd (omega arith)

    empty : (x : List Value) → fits_fields [] x ≡ true → x ≡ []
    empty [] h = refl
    empty (v ∷ vs) h =
        let p = and_parts (suc (length vs) == 0) true h in
        let e = eqb-true (suc (length vs)) 0 p.0 in
        absurd (omega arith)

    same : (x y : List Value) → fits_fields [] x ≡ true → fits_fields [] y ≡ true → x ≡ y
    same x y h g = empty x h ∙ sym (empty y g)

module _ (width rest : ℕ) (marks more : Marks) (test : Test) (tests : List Test) (pack : Pack) (packs : List Pack) where
  pub one_field_more : IsCoding width marks test pack → IsCoding rest more (fits_fields tests) (first_highest packs) → IsCoding (width + rest) (more ++ marks) (fits_fields (test ∷ tests)) (first_highest (pack ∷ packs))
  one_field_more one others = of (both_coded rest width more marks (fits_fields tests) test (first_highest packs) pack others one)
    where
      of : IsCoding (rest + width) (more ++ marks) (λ (x : List Value × Value). fits_fields tests x.0 && test x.1) (λ (x : List Value × Value). first_highest packs x.0 ++ pack x.1)
          → IsCoding (width + rest) (more ++ marks) (fits_fields (test ∷ tests)) (first_highest (pack ∷ packs))
      of both = record {
        marked = both.marked ∙ omega arith;
        size = size;
        clear = clear;
        found = λ bits e m.
            let x = both.found bits (e ∙ omega arith) m in
            (x.0.1 ∷ x.0.0, (fields_joined test tests x.0.1 x.0.0 x.1.0, x.1.1));
        only = only;
      }
        where
          size : (x : List Value) → fits_fields (test ∷ tests) x ≡ true → length (first_highest (pack ∷ packs) x) ≡ width + rest
          size [] h = absurd (no_value test tests h)
          size (v ∷ vs) h = both.size (vs, v) (fields_split test tests v vs h) ∙ omega arith

          clear : (x : List Value) → fits_fields (test ∷ tests) x ≡ true → has_marked_one (more ++ marks) (first_highest (pack ∷ packs) x) ≡ false
          clear [] h = absurd (no_value test tests h)
          clear (v ∷ vs) h = both.clear (vs, v) (fields_split test tests v vs h)

          only : (x y : List Value) → fits_fields (test ∷ tests) x ≡ true → fits_fields (test ∷ tests) y ≡ true → first_highest (pack ∷ packs) x ≡ first_highest (pack ∷ packs) y → x ≡ y
          only [] y h g e = absurd (no_value test tests h)
          only (v ∷ vs) [] h g e = absurd (no_value test tests g)
          only (v ∷ vs) (w ∷ ws) h g e = ap (λ p. p.1 ∷ p.0) (both.only (vs, v) (ws, w) (fields_split test tests v vs h) (fields_split test tests w ws g) e)

-- ---- the items of an array

-- as many items, each of which passes
abbrev pub fits_items : Test → ℕ → List Value → Bool
fits_items test count values = (length values == count) && list_all test values

module _ (test : Test) where
  items_split : (count : ℕ) (v : Value) (vs : List Value) → fits_items test (suc count) (v ∷ vs) ≡ true → (test v && fits_items test count vs) ≡ true
  items_split count v vs h =
      let p = and_parts (suc (length vs) == suc count) (test v && list_all test vs) h in
      let q = and_parts (test v) (list_all test vs) p.1 in
      let e = eqb-true (suc (length vs)) (suc count) p.0 in
      and_from (test v) (fits_items test count vs) q.0 (and_from (length vs == count) (list_all test vs) (eq-eqb (length vs) count (omega arith)) q.1)

  items_joined : (count : ℕ) (v : Value) (vs : List Value) → (test v && fits_items test count vs) ≡ true → fits_items test (suc count) (v ∷ vs) ≡ true
  items_joined count v vs h =
      let p = and_parts (test v) (fits_items test count vs) h in
      let q = and_parts (length vs == count) (list_all test vs) p.1 in
      let e = eqb-true (length vs) count q.0 in
      and_from (suc (length vs) == suc count) (test v && list_all test vs) (eq-eqb (suc (length vs)) (suc count) (omega arith)) (and_from (test v) (list_all test vs) p.0 q.1)

  no_item : (count : ℕ) → fits_items test (suc count) [] ≡ true → ⊥
  no_item count h =
      let p = and_parts (0 == suc count) true h in
      let e = eqb-true 0 (suc count) p.0 in
      omega arith

  no_items : (pack : Pack) → IsCoding 0 [] (fits_items test 0) (first_lowest pack)
  no_items pack = record {
    marked = refl;
    size = λ x h. ap (λ l. length (first_lowest pack l)) (empty x h);
    clear = λ x h. refl;
    found = λ bits e m. none bits e;
    only = λ x y h g e. empty x h ∙ sym (empty y g);
  }
    where
      none : (bits : List Bool) → length bits ≡ 0 → (x : List Value) × ((fits_items test 0 x ≡ true) × (first_lowest pack x ≡ bits))
      none [] e = ([], (refl, refl))
      none (b ∷ bits) e = absurd (omega arith)

      empty : (x : List Value) → fits_items test 0 x ≡ true → x ≡ []
      empty [] h = refl
      empty (v ∷ vs) h =
          let p = and_parts (suc (length vs) == 0) (test v && list_all test vs) h in
          let e = eqb-true (suc (length vs)) 0 p.0 in
          absurd (omega arith)

  module _ (width rest count : ℕ) (marks more : Marks) (pack : Pack) where
    one_item_more : IsCoding width marks test pack → IsCoding rest more (fits_items test count) (first_lowest pack) → IsCoding (width + rest) (marks ++ more) (fits_items test (suc count)) (first_lowest pack)
    one_item_more one others = of (both_coded width rest marks more test (fits_items test count) pack (first_lowest pack) one others)
      where
        of : IsCoding (width + rest) (marks ++ more) (λ (x : Value × List Value). test x.0 && fits_items test count x.1) (λ (x : Value × List Value). pack x.0 ++ first_lowest pack x.1)
            → IsCoding (width + rest) (marks ++ more) (fits_items test (suc count)) (first_lowest pack)
        of both = record {
          marked = both.marked;
          size = size;
          clear = clear;
          found = λ bits e m.
              let x = both.found bits e m in
              (x.0.0 ∷ x.0.1, (items_joined count x.0.0 x.0.1 x.1.0, x.1.1));
          only = only;
        }
          where
            size : (x : List Value) → fits_items test (suc count) x ≡ true → length (first_lowest pack x) ≡ width + rest
            size [] h = absurd (no_item count h)
            size (v ∷ vs) h = both.size (v, vs) (items_split count v vs h)

            clear : (x : List Value) → fits_items test (suc count) x ≡ true → has_marked_one (marks ++ more) (first_lowest pack x) ≡ false
            clear [] h = absurd (no_item count h)
            clear (v ∷ vs) h = both.clear (v, vs) (items_split count v vs h)

            only : (x y : List Value) → fits_items test (suc count) x ≡ true → fits_items test (suc count) y ≡ true → first_lowest pack x ≡ first_lowest pack y → x ≡ y
            only [] y h g e = absurd (no_item count h)
            only (v ∷ vs) [] h g e = absurd (no_item count g)
            only (v ∷ vs) (w ∷ ws) h g e = ap (λ p. p.0 ∷ p.1) (both.only (v, vs) (w, ws) (items_split count v vs h) (items_split count w ws g) e)

  pub items_coded : (width count : ℕ) (marks : Marks) (pack : Pack) → IsCoding width marks test pack → IsCoding (count * width) (repeated count marks) (fits_items test count) (first_lowest pack)
  items_coded width zero marks pack one = subst (λ n. IsCoding n [] (fits_items test 0) (first_lowest pack)) (let e : 0 ≡ 0 * width = omega arith in e) (no_items pack)
  items_coded width (suc count) marks pack one =
      subst (λ n. IsCoding n (marks ++ repeated count marks) (fits_items test (suc count)) (first_lowest pack)) (let e : width + count * width ≡ suc count * width = omega arith in e)
      (one_item_more width (count * width) count marks (repeated count marks) pack one (items_coded width count marks pack one))
