-- A width that is found, if anything.
use Rattle.std.specs.Prelude.{◌≡◌, ℕ, Option, Some, None, refl}
use Rattle.std.proofs.Common.{sym, ◌∙◌, ap, subst}
use Rattle.netlist.specs.Formulas.{size_both, size_number, size_slice, size_concat}
use Rattle.netlist.specs.Parts.{only_width}

-- what is found, if anything, is what there is
pub record IsFound (found there : Option ℕ) : Type 0 where
  pub same : (width : ℕ) → found ≡ Some width → there ≡ Some width

pub found_nothing : (there : Option ℕ) → IsFound None there
found_nothing there = record { same = λ width e. absurd (cc) }

pub found_same : (found there : Option ℕ) → found ≡ there → IsFound found there
found_same found there e = record { same = λ width is. sym e ∙ is }

-- ---- operators, of what is found of their operands

-- whatever keeps None
module _ (of : Option ℕ → Option ℕ) (strict : of None ≡ None) where
  lifted : (found there : Option ℕ) → IsFound found there → IsFound (of found) (of there)
  lifted None there h = record { same = λ width e. absurd (let no : None ≡ Some width = sym strict ∙ e in cc) }
  lifted (Some w) there h = record { same = λ width e. ap of (h.same w refl) ∙ e }

pub found_only : (result found there : Option ℕ) (asked : ℕ) → result ≡ only_width asked found → IsFound found there → IsFound result (only_width asked there)
found_only result found there asked e h = subst (λ r. IsFound r (only_width asked there)) (sym e) (lifted (only_width asked) refl found there h)

pub found_slice : (result found there : Option ℕ) (high low : ℕ) → result ≡ size_slice found high low → IsFound found there → IsFound result (size_slice there high low)
found_slice result found there high low e h = subst (λ r. IsFound r (size_slice there high low)) (sym e) (lifted (λ o. size_slice o high low) refl found there h)

both_none : (a : Option ℕ) → size_both a None ≡ None
both_none None = refl
both_none (Some a) = refl

concat_none : (a : Option ℕ) → size_concat a None ≡ None
concat_none None = refl
concat_none (Some a) = refl

found_twice : (of : Option ℕ → Option ℕ → Option ℕ) → ((b : Option ℕ) → of None b ≡ None) → ((a : Option ℕ) → of a None ≡ None) → (a b x y : Option ℕ) → IsFound a x → IsFound b y → IsFound (of a b) (of x y)
found_twice of left right a b x y h i = record {
  same = λ width e.
      (lifted (λ o. of x o) (right x) b y i).same width ((lifted (λ o. of o b) (left b) a x h).same width e);
}

pub found_sum : (result a b x y : Option ℕ) → result ≡ size_number (size_both a b) → IsFound a x → IsFound b y → IsFound result (size_number (size_both x y))
found_sum result a b x y e h i = subst (λ r. IsFound r (size_number (size_both x y))) (sym e) (lifted size_number refl (size_both a b) (size_both x y) (found_twice size_both (λ o. refl) both_none a b x y h i))

pub found_concat : (result a b x y : Option ℕ) → result ≡ size_concat a b → IsFound a x → IsFound b y → IsFound result (size_concat x y)
found_concat result a b x y e h i = subst (λ r. IsFound r (size_concat x y)) (sym e) (found_twice size_concat (λ o. refl) concat_none a b x y h i)
