-- The loop over the octets after a full prefix: what is left, from here, gives what all gives.
use Rattle.std.proofs.Common.{◌≡◌, ℕ, ◌+◌, ◌*◌, ◌%◌, ◌<◌, ◌≤◌, List, [], ◌∷◌, Ok, Err, length, drop, get_or, refl, ap, sym, ◌∙◌, arith}
use Rattle.hpack.specs.declared.limits.TheConstants.{INTEGER_VALUES}
use Rattle.hpack.specs.declared.stop.BlockRule.TheVariants.{CutOrTooLarge}
use Rattle.std.proofs.lemmas.Bool.{lt-ltb, le-ltb, cond-true, cond-false}
use Rattle.std.proofs.lemmas.List.{drop_more, drop_all}
use Rattle.hpack.specs.IntegerReading.{more_at}

-- nothing more to read
cut_short : (ws : List ℕ) (sum : ℕ) → more_at ws sum [] ≡ Err CutOrTooLarge
unfolding more_at
cut_short [] sum = refl
cut_short (w ∷ ws) sum = refl

pub more_cut : (ws os : List ℕ) (i sum : ℕ) → length os ≤ i → more_at (drop i ws) sum (drop i os) ≡ Err CutOrTooLarge
more_cut ws os i sum h = ap (λ x. more_at (drop i ws) sum x) (drop_all i os h) ∙ cut_short (drop i ws) sum

-- no octet more may follow
pub more_many : (ws os : List ℕ) (i sum : ℕ) → length ws ≤ i → more_at (drop i ws) sum (drop i os) ≡ Err CutOrTooLarge
unfolding more_at
more_many ws os i sum h = ap (λ x. more_at x sum (drop i os)) (drop_all i ws h)

-- at one octet more, whose seven bits the digit is
at_one : (ws os : List ℕ) (i sum octet weight : ℕ) → i < length ws → i < length os → octet ≡ get_or os i 0 → weight ≡ get_or ws i 0 → more_at (drop i ws) sum (drop i os) ≡ more_at (weight ∷ drop (i + 1) ws) sum (octet ∷ drop (i + 1) os)
at_one ws os i sum octet weight w o is_o is_w =
    ap (λ x. more_at x sum (drop i os)) (drop_more ws i 0 w ∙ ap (λ x. x ∷ drop (i + 1) ws) (sym is_w))
    ∙ ap (λ x. more_at (weight ∷ drop (i + 1) ws) sum x) (drop_more os i 0 o ∙ ap (λ x. x ∷ drop (i + 1) os) (sym is_o))

pub more_large : (ws os : List ℕ) (i sum octet digit weight : ℕ) → i < length ws → i < length os → octet ≡ get_or os i 0 → digit ≡ octet % 128 → weight ≡ get_or ws i 0 → INTEGER_VALUES ≤ sum + digit * weight → more_at (drop i ws) sum (drop i os) ≡ Err CutOrTooLarge
unfolding more_at
more_large ws os i sum octet digit weight w o is_o is_d is_w large =
    let same = ap (λ d. d * weight) is_d in
    at_one ws os i sum octet weight w o is_o is_w ∙ cond-false _ _ _ (le-ltb (sum + octet % 128 * weight) (INTEGER_VALUES) (omega arith))

pub more_last : (ws os : List ℕ) (i sum octet digit weight : ℕ) → i < length ws → i < length os → octet ≡ get_or os i 0 → digit ≡ octet % 128 → weight ≡ get_or ws i 0 → sum + digit * weight < INTEGER_VALUES → octet < 128 → more_at (drop i ws) sum (drop i os) ≡ Ok (sum + digit * weight, drop (i + 1) os)
unfolding more_at
more_last ws os i sum octet digit weight w o is_o is_d is_w small last =
    let same = ap (λ d. d * weight) is_d in
    at_one ws os i sum octet weight w o is_o is_w
    ∙ cond-true _ _ _ (lt-ltb (sum + octet % 128 * weight) (INTEGER_VALUES) (omega arith))
    ∙ cond-true _ _ _ (lt-ltb octet 128 last)
    ∙ ap (λ d. Ok (sum + d * weight, drop (i + 1) os)) (sym is_d)

pub more_on : (ws os : List ℕ) (i sum octet digit weight : ℕ) → i < length ws → i < length os → octet ≡ get_or os i 0 → digit ≡ octet % 128 → weight ≡ get_or ws i 0 → sum + digit * weight < INTEGER_VALUES → 128 ≤ octet → more_at (drop i ws) sum (drop i os) ≡ more_at (drop (i + 1) ws) (sum + digit * weight) (drop (i + 1) os)
unfolding more_at
more_on ws os i sum octet digit weight w o is_o is_d is_w small on =
    let same = ap (λ d. d * weight) is_d in
    at_one ws os i sum octet weight w o is_o is_w
    ∙ cond-true _ _ _ (lt-ltb (sum + octet % 128 * weight) (INTEGER_VALUES) (omega arith))
    ∙ cond-false _ _ _ (le-ltb octet 128 on)
    ∙ ap (λ d. more_at (drop (i + 1) ws) (sum + d * weight) (drop (i + 1) os)) (sym is_d)
