-- A text in which tokens are spelled is cut into those tokens.
use Rattle.std.proofs.Common.{◌≡◌, ℕ, ◌<◌, ◌≤◌, Bool, true, false, not, eqb, ◌&&◌, ◌||◌, Some, List, [], ◌∷◌, ◌++◌, ◌+◌, ◌*◌, ◌/◌, ◌%◌, ◌^◌, ◌-◌, inl, inr, zero, suc, min, length, get_or, refl, subst, arith, sym, ◌∙◌, ap}
use Rattle.std.proofs.Math.Dec.{ltb, leb}
use Rattle.std.proofs.Math.Nat.{mul_comm, mul_assoc, mul-add, mod-eq_of_lt, mod-lt, lt_of_lt_of_le}
use Rattle.std.proofs.Math.Pow.{pow_mono}
use Rattle.std.proofs.lemmas.Bool.{lt-ltb, ne_eqb, eq-eqb, leb-true, le-leb, lt-leb, le-ltb, cases_lt}
use Rattle.std.proofs.lemmas.List.{append-nil}
use Rattle.std.proofs.lemmas.Nat.{mod-pow-add, pow-add, pow_pos}
use Rattle.std.specs.Char.{is_ascii_digit}
use Rattle.std.specs.Fmt.{decimal}
use Rattle.std.specs.List.{list_all, prefix_len}
use Rattle.std.specs.Str.{bytes_eq}
use Rattle.design_lex.specs.CutLaw.{answers, both}
use Rattle.design_lex.specs.CutOnly.{not_at}
use Rattle.design_lex.specs.Cuts.{stops}
use Rattle.design_lex.specs.Digits.{value, value_from, digit_of}
use Rattle.design_lex.specs.PrintedDigits.{AreDigitsOf, decimal_digits}
use Rattle.esi_base.specs.BitLists.{number_of-below, bits_of-number_of}
use Rattle.esi_base.specs.Bits.{number_of}
use Rattle.esi_base.specs.Parts.{part}
use Rattle.small_text.specs.Hexadecimal.{hex_digit}
use Rattle.verilog_lex.specs.CutOnly.{run_front, run_left, token_cut}
use Rattle.verilog_lex.specs.Cuts.{IsToken, word, number, constant, comment, equality, assignment, one_sign}
use Rattle.verilog_lex.specs.Numbers.{number_token, constant_token, digit_count, is_width}
use Rattle.verilog_lex.specs.Octet.{begins_word, is_word_octet, is_hex_digit, begins_base}
use Rattle.verilog_lex.specs.Spelled.{IsSpelled, stands_apart, Spells, ended, blank, token, tokens_in}
use Rattle.verilog_lex.specs.Steps.{blank_step, no_more}
use Rattle.verilog_lex.specs.Tokens.{lexemes_from}
use Rattle.verilog_lex.specs.Words.{word_token, keyword_of, name_token, by_letter, net_of, index_of, role_of, port_of}
use Rattle.verilog_tokens.specs.Spelling.{spelling, keyword_text, sign_text, role_word, hex_digits}
use Rattle.verilog_tokens.specs.declared.token.Keyword.{Keyword}
use Rattle.verilog_tokens.specs.declared.token.Keyword.TheVariants.{Module, EndModule, Input, Output, Wire, Reg, Assign, Always, Posedge, Begin, End, If, Else}
use Rattle.verilog_tokens.specs.declared.token.Port.{Port}
use Rattle.verilog_tokens.specs.declared.token.PortRole.{PortRole}
use Rattle.verilog_tokens.specs.declared.token.PortRole.TheVariants.{Valid, Word, Ready}
use Rattle.verilog_tokens.specs.declared.token.PortSide.{PortSide}
use Rattle.verilog_tokens.specs.declared.token.PortSide.TheVariants.{Server, Client}
use Rattle.verilog_tokens.specs.declared.token.Sign.{Sign}
use Rattle.verilog_tokens.specs.declared.token.Sign.TheVariants.{LeftParenthesis, RightParenthesis, LeftBracket, RightBracket, LeftBrace, RightBrace, Comma, Semicolon, Colon, Question, At, Tilde, Ampersand, Bar, Caret, Plus, Minus, Equals, DoubleEquals, Less, Becomes}
use Rattle.verilog_tokens.specs.declared.token.Token.{Token}
use Rattle.verilog_tokens.specs.declared.token.Token.TheVariants as T

-- ---- words

-- a word that is this token
word_is : (w behind : List ℕ) (t : Token) → begins_word (get_or w 0 0) ≡ true → list_all is_word_octet w ≡ true → word_token w ≡ t → stops is_word_octet behind ≡ true → IsToken w behind t
word_is w behind t h all is s = subst (IsToken w behind) is (word w behind h (record { all = all; longest = s }))

keyword_is : (k : Keyword) → word_token (keyword_text k) ≡ T.Keyword k
unfolding word_token keyword_of
keyword_is Module = refl
keyword_is EndModule = refl
keyword_is Input = refl
keyword_is Output = refl
keyword_is Wire = refl
keyword_is Reg = refl
keyword_is Assign = refl
keyword_is Always = refl
keyword_is Posedge = refl
keyword_is Begin = refl
keyword_is End = refl
keyword_is If = refl
keyword_is Else = refl

keyword_word : (k : Keyword) (behind : List ℕ) → stops is_word_octet behind ≡ true → IsToken (keyword_text k) behind (T.Keyword k)
keyword_word Module behind s = word_is (keyword_text Module) behind (T.Keyword Module) refl refl (keyword_is Module) s
keyword_word EndModule behind s = word_is (keyword_text EndModule) behind (T.Keyword EndModule) refl refl (keyword_is EndModule) s
keyword_word Input behind s = word_is (keyword_text Input) behind (T.Keyword Input) refl refl (keyword_is Input) s
keyword_word Output behind s = word_is (keyword_text Output) behind (T.Keyword Output) refl refl (keyword_is Output) s
keyword_word Wire behind s = word_is (keyword_text Wire) behind (T.Keyword Wire) refl refl (keyword_is Wire) s
keyword_word Reg behind s = word_is (keyword_text Reg) behind (T.Keyword Reg) refl refl (keyword_is Reg) s
keyword_word Assign behind s = word_is (keyword_text Assign) behind (T.Keyword Assign) refl refl (keyword_is Assign) s
keyword_word Always behind s = word_is (keyword_text Always) behind (T.Keyword Always) refl refl (keyword_is Always) s
keyword_word Posedge behind s = word_is (keyword_text Posedge) behind (T.Keyword Posedge) refl refl (keyword_is Posedge) s
keyword_word Begin behind s = word_is (keyword_text Begin) behind (T.Keyword Begin) refl refl (keyword_is Begin) s
keyword_word End behind s = word_is (keyword_text End) behind (T.Keyword End) refl refl (keyword_is End) s
keyword_word If behind s = word_is (keyword_text If) behind (T.Keyword If) refl refl (keyword_is If) s
keyword_word Else behind s = word_is (keyword_text Else) behind (T.Keyword Else) refl refl (keyword_is Else) s

clock_word : (behind : List ℕ) → stops is_word_octet behind ≡ true → IsToken (spelling T.Clock) behind T.Clock
unfolding word_token keyword_of name_token
clock_word behind s = word (spelling T.Clock) behind refl (record { all = refl; longest = s })

reset_word : (behind : List ℕ) → stops is_word_octet behind ≡ true → IsToken (spelling T.Reset) behind T.Reset
unfolding word_token keyword_of name_token
reset_word behind s = word (spelling T.Reset) behind refl (record { all = refl; longest = s })

title_word : (title behind : List ℕ) → list_all is_word_octet title ≡ true → stops is_word_octet behind ≡ true → IsToken (spelling (T.Title title)) behind (T.Title title)
unfolding word_token keyword_of name_token by_letter
title_word title behind h s = word (spelling (T.Title title)) behind refl (record { all = h; longest = s })

-- digits are octets of words
digit_in_word : (b : ℕ) → is_ascii_digit b ≡ true → is_word_octet b ≡ true
digit_in_word b d = by (begins_word b) d
  where
    by : (c : Bool) → is_ascii_digit b ≡ true → (c || is_ascii_digit b) ≡ true
    by true d = refl
    by false d = d

digits_in_word : (digits behind : List ℕ) → list_all is_ascii_digit digits ≡ true → list_all is_word_octet behind ≡ true → list_all is_word_octet (digits ++ behind) ≡ true
digits_in_word [] behind h k = k
digits_in_word (d ∷ digits) behind h k =
    let p = both (is_ascii_digit d) (list_all is_ascii_digit digits) h in
    rw (digit_in_word d p.0, digits_in_word digits behind p.1 k) refl

-- all digits stand at the front
prefix_all : (test : ℕ → Bool) (xs : List ℕ) → list_all test xs ≡ true → prefix_len test xs ≡ length xs
prefix_all test [] h = refl
prefix_all test (x ∷ xs) h =
    let p = both (test x) (list_all test xs) h in
    let one_more : 1 + length xs ≡ suc (length xs) = omega arith in
    rw (p.0, prefix_all test xs p.1, one_more) refl

-- the digits of a number are that number's
index_is : (n : ℕ) (digits : List ℕ) → n < 2 ^ 32 → AreDigitsOf n digits → index_of digits ≡ Some n
index_is n digits h d =
    let some : eqb (length digits) 0 ≡ false = ne_eqb (length digits) 0 (λ e. omega (arith, e, d.some)) in
    let small : ltb n (2 ^ 32) ≡ true = lt-ltb n (2 ^ 32) h in
    rw (some, d.leading, d.same, small) refl

net_is : (n : ℕ) (digits : List ℕ) → n < 2 ^ 32 → AreDigitsOf n digits → net_of digits ≡ Some n
net_is n digits h d =
    let len : eqb (prefix_len is_ascii_digit digits) (length digits) ≡ true = eq-eqb (prefix_len is_ascii_digit digits) (length digits) (prefix_all is_ascii_digit digits d.all) in
    rw len (index_is n digits h d)

net_token : (n : ℕ) (digits : List ℕ) → net_of digits ≡ Some n → word_token (110 ∷ digits) ≡ T.Net n
unfolding word_token keyword_of name_token by_letter
net_token n digits e = rw e refl

net_word : (n : ℕ) (behind : List ℕ) → n < 2 ^ 32 → stops is_word_octet behind ≡ true → IsToken (spelling (T.Net n)) behind (T.Net n)
net_word n behind h s =
    let d = decimal_digits n (omega arith) in
    let all : list_all is_word_octet (decimal n) ≡ true = subst (λ (z : List ℕ). list_all is_word_octet z ≡ true) (append-nil (decimal n)) (digits_in_word (decimal n) [] d.all refl) in
    word_is (110 ∷ decimal n) behind (T.Net n) refl all (net_token n (decimal n) (net_is n (decimal n) h d)) s

-- what stands behind the letter of a side
abbrev port_behind : ℕ → PortRole → List ℕ
port_behind channel role = decimal channel ++ 95 ∷ role_word role

role_is : (role : PortRole) → role_of (95 ∷ role_word role) ≡ Some role
role_is Valid = refl
role_is Word = refl
role_is Ready = refl

role_octets : (role : PortRole) → list_all is_word_octet (95 ∷ role_word role) ≡ true
role_octets Valid = refl
role_octets Word = refl
role_octets Ready = refl

port_is : (side : PortSide) (channel : ℕ) (role : PortRole) → channel < 2 ^ 32 → port_of side (port_behind channel role) ≡ Some (record { side = side; channel = channel; role = role })
port_is side channel role h =
    let d = decimal_digits channel (omega arith) in
    let front = run_front is_ascii_digit (decimal channel) (95 ∷ role_word role) d.all refl in
    let left = run_left is_ascii_digit (decimal channel) (95 ∷ role_word role) d.all refl in
    rw (front, left, index_is channel (decimal channel) h d, role_is role) refl

-- no word with a digit behind its `c` is `clk`
no_clock : (digits behind : List ℕ) → 0 < length digits → list_all is_ascii_digit digits ≡ true → bytes_eq (99 ∷ (digits ++ behind)) (99 ∷ 108 ∷ 107 ∷ []) ≡ false
no_clock [] behind h d = absurd (omega arith)
no_clock (b ∷ digits) behind h d =
    let p = both (is_ascii_digit b) (list_all is_ascii_digit digits) d in
    rw (not_at is_ascii_digit b 108 p.0 refl) refl

server_token : (w : List ℕ) (port : Port) → port_of Server w ≡ Some port → word_token (115 ∷ w) ≡ T.Port port
unfolding word_token keyword_of name_token by_letter
server_token w port e = rw e refl

client_token : (w : List ℕ) (port : Port) → bytes_eq (99 ∷ w) (99 ∷ 108 ∷ 107 ∷ []) ≡ false → port_of Client w ≡ Some port → word_token (99 ∷ w) ≡ T.Port port
unfolding word_token keyword_of name_token by_letter
client_token w port c e = rw (c, e) refl

port_word : (port : Port) (behind : List ℕ) → port.channel < 2 ^ 32 → stops is_word_octet behind ≡ true → IsToken (spelling (T.Port port)) behind (T.Port port)
port_word port behind h s = by port.side port.channel port.role h
  where
    by : (side : PortSide) (channel : ℕ) (role : PortRole) → channel < 2 ^ 32
        → IsToken (spelling (T.Port (record { side = side; channel = channel; role = role }))) behind (T.Port (record { side = side; channel = channel; role = role }))
    by Server channel role h =
        let d = decimal_digits channel (omega arith) in
        word_is (115 ∷ port_behind channel role) behind (T.Port (record { side = Server; channel = channel; role = role })) refl
        (digits_in_word (decimal channel) (95 ∷ role_word role) d.all (role_octets role))
        (server_token (port_behind channel role) (record { side = Server; channel = channel; role = role }) (port_is Server channel role h)) s
    by Client channel role h =
        let d = decimal_digits channel (omega arith) in
        word_is (99 ∷ port_behind channel role) behind (T.Port (record { side = Client; channel = channel; role = role })) refl
        (digits_in_word (decimal channel) (95 ∷ role_word role) d.all (role_octets role))
        (client_token (port_behind channel role) (record { side = Client; channel = channel; role = role }) (no_clock (decimal channel) (95 ∷ role_word role) d.some d.all) (port_is Client channel role h)) s

-- ---- numbers

-- what no octet of a word passes, no digit passes
stops_digits : (tail : List ℕ) → stops is_word_octet tail ≡ true → stops is_ascii_digit tail ≡ true
stops_digits [] s = refl
stops_digits (b ∷ tail) s =
    elim (answers (is_ascii_digit b)) [
      | inl e ↦ (let in_word : is_word_octet b ≡ true = digit_in_word b e in let wrong : not true ≡ true = subst (λ (c : Bool). not c ≡ true) in_word s in cc)
      | inr e ↦ rw e refl
    ]

not_true : (c : Bool) → not c ≡ true → c ≡ false
not_true true e = cc
not_true false e = refl

number_is : (n : ℕ) (digits : List ℕ) → n < 2 ^ 32 → AreDigitsOf n digits → number_token digits ≡ T.Number n
unfolding number_token
number_is n digits h d =
    let same : min 4294967295 n ≡ n = omega arith in
    rw (d.leading, d.same, same) refl

number_text : (n : ℕ) (behind : List ℕ) → n < 2 ^ 32 → (stops is_word_octet behind && not (begins_base behind)) ≡ true → IsToken (spelling (T.Number n)) behind (T.Number n)
number_text n behind h s =
    let d = decimal_digits n (omega arith) in
    let p = both (stops is_word_octet behind) (not (begins_base behind)) s in
    subst (IsToken (decimal n) behind) (number_is n (decimal n) h d)
    (number (decimal n) behind d.some (record { all = d.all; longest = stops_digits behind p.0 }) (not_true (begins_base behind) p.1))

-- ---- constants

-- a hexadecimal digit is one, and means its number
hex_is_digit : (d : ℕ) → d < 16 → is_hex_digit (hex_digit d) ≡ true
hex_is_digit d h =
    elim (cases_lt d 10) [
      | inl l ↦ (let glyph : hex_digit d ≡ 48 + d = rw (lt-ltb d 10 l) refl in
          let low : leb 48 (48 + d) ≡ true = le-leb 48 (48 + d) (omega arith) in
          let high : leb (48 + d) 57 ≡ true = le-leb (48 + d) 57 (omega arith) in
          rw (glyph, low, high) refl)
      | inr g ↦ (let glyph : hex_digit d ≡ 87 + d = rw (le-ltb d 10 g) refl in
          let low : leb 48 (87 + d) ≡ true = le-leb 48 (87 + d) (omega arith) in
          let high : leb (87 + d) 57 ≡ false = lt-leb (87 + d) 57 (omega arith) in
          let low_letter : leb 97 (87 + d) ≡ true = le-leb 97 (87 + d) (omega arith) in
          let high_letter : leb (87 + d) 102 ≡ true = le-leb (87 + d) 102 (omega arith) in
          rw (glyph, low, high, low_letter, high_letter) refl)
    ]

hex_means : (d : ℕ) → d < 16 → digit_of (hex_digit d) ≡ d
hex_means d h =
    elim (cases_lt d 10) [
      | inl l ↦ (let glyph : hex_digit d ≡ 48 + d = rw (lt-ltb d 10 l) refl in
          let low : ltb (48 + d) 97 ≡ true = lt-ltb (48 + d) 97 (omega arith) in
          let less : 48 + d - 48 ≡ d = omega arith in
          rw (glyph, low, less) refl)
      | inr g ↦ (let glyph : hex_digit d ≡ 87 + d = rw (le-ltb d 10 g) refl in
          let low : ltb (87 + d) 97 ≡ false = le-ltb (87 + d) 97 (omega arith) in
          let less : 87 + d - 87 ≡ d = omega arith in
          rw (glyph, low, less) refl)
    ]

hex_all : (count n : ℕ) → list_all is_hex_digit (hex_digits count n) ≡ true
hex_all zero n = refl
hex_all (suc place) n = rw (hex_is_digit (part 4 n place) (mod-lt (n / 2 ^ (4 * place)) (pow_pos 4)), hex_all place n) refl

hex_count : (count n : ℕ) → length (hex_digits count n) ≡ count
hex_count zero n = refl
hex_count (suc place) n = ap suc (hex_count place n)

hex_value : (front count n : ℕ) → value_from 16 front (hex_digits count n) ≡ front * 2 ^ (4 * count) + n % 2 ^ (4 * count)
hex_value front zero n = let e : front ≡ front * 1 + n % 1 = omega arith in e
hex_value front (suc place) n =
    let p : ℕ = 2 ^ (4 * place) in
    let d : ℕ = part 4 n place in
    let means : digit_of (hex_digit d) ≡ d = hex_means d (mod-lt (n / p) (pow_pos 4)) in
    let power : 2 ^ (4 * suc place) ≡ 2 ^ (4 + 4 * place) = ap (λ k. 2 ^ k) (let m : 4 * suc place ≡ 4 + 4 * place = omega arith in m) in
    let split : n % 2 ^ (4 + 4 * place) ≡ d * p + n % p = mod-pow-add n 4 (4 * place) in
    let times : 2 ^ (4 + 4 * place) ≡ 16 * p = pow-add 2 4 (4 * place) in
    let sum : (front * 16 + d) * p + n % p ≡ front * (16 * p) + (d * p + n % p) = spread front d p (n % p) in
    ap (λ k. value_from 16 (front * 16 + k) (hex_digits place n)) means
    ∙ (hex_value (front * 16 + d) place n ∙ (sum ∙ sym (rw (power, split, times) refl)))
  where
    spread : (f d p v : ℕ) → (f * 16 + d) * p + v ≡ f * (16 * p) + (d * p + v)
    spread f d p v =
        let a : (f * 16 + d) * p ≡ p * (f * 16) + p * d = mul_comm (f * 16 + d) p ∙ mul-add p (f * 16) d in
        let b : p * (f * 16) ≡ f * (16 * p) = sym (mul_assoc p f 16) ∙ (ap (λ n. n * 16) (mul_comm p f) ∙ (mul_assoc f p 16 ∙ ap (λ n. f * n) (mul_comm p 16))) in
        let c : p * d ≡ d * p = mul_comm p d in
        rw (a, b, c) (omega arith)

-- the bits of a word fit as many digits as are written
hex_number : (bits : List Bool) → value 16 (hex_digits (digit_count (length bits)) (number_of bits)) ≡ number_of bits
hex_number bits =
    let k : ℕ = digit_count (length bits) in
    let within : number_of bits < 2 ^ (4 * k) = lt_of_lt_of_le (number_of-below bits) (pow_mono (let m : length bits ≤ 4 * k = omega arith in m)) in
    hex_value 0 k (number_of bits) ∙ (let e : 0 * 2 ^ (4 * k) + number_of bits % 2 ^ (4 * k) ≡ number_of bits % 2 ^ (4 * k) = omega arith in e ∙ mod-eq_of_lt within)

constant_is : (bits : List Bool) → is_width (length bits) ≡ true → constant_token (decimal (length bits)) (hex_digits (digit_count (length bits)) (number_of bits)) ≡ T.Constant bits
unfolding constant_token
constant_is bits h =
    let p = both (leb 1 (length bits)) (leb (length bits) 1024) h in
    let high : length bits ≤ 1024 = leb-true (length bits) 1024 p.1 in
    let d = decimal_digits (length bits) (omega arith) in
    let count : eqb (length (hex_digits (digit_count (length bits)) (number_of bits))) (digit_count (length bits)) ≡ true = eq-eqb _ _ (hex_count (digit_count (length bits)) (number_of bits)) in
    let fits : ltb (number_of bits) (2 ^ length bits) ≡ true = lt-ltb (number_of bits) (2 ^ length bits) (number_of-below bits) in
    rw (d.leading, d.same, p.0, p.1, count, hex_number bits, fits, bits_of-number_of bits) refl

-- hexadecimal digits are octets of words
hex_in_word : (b : ℕ) → is_hex_digit b ≡ true → is_word_octet b ≡ true
hex_in_word b h =
    elim (answers (is_ascii_digit b)) [
      | inl d ↦ digit_in_word b d
      | inr d ↦ (let letter : (leb 97 b && leb b 102) ≡ true = (rw d at h) in
          let p = both (leb 97 b) (leb b 102) letter in
          let high : b ≤ 102 = leb-true b 102 p.1 in
          let far : leb b 122 ≡ true = le-leb b 122 (omega arith) in
          rw (p.0, far) refl)
    ]

stops_hex : (tail : List ℕ) → stops is_word_octet tail ≡ true → stops is_hex_digit tail ≡ true
stops_hex [] s = refl
stops_hex (b ∷ tail) s =
    elim (answers (is_hex_digit b)) [
      | inl e ↦ (let in_word : is_word_octet b ≡ true = hex_in_word b e in let wrong : not true ≡ true = subst (λ (c : Bool). not c ≡ true) in_word s in cc)
      | inr e ↦ rw e refl
    ]

constant_word : (bits : List Bool) (behind : List ℕ) → is_width (length bits) ≡ true → stops is_word_octet behind ≡ true → IsToken (spelling (T.Constant bits)) behind (T.Constant bits)
constant_word bits behind h s =
    let p = both (leb 1 (length bits)) (leb (length bits) 1024) h in
    let high : length bits ≤ 1024 = leb-true (length bits) 1024 p.1 in
    let d = decimal_digits (length bits) (omega arith) in
    let digits : List ℕ = hex_digits (digit_count (length bits)) (number_of bits) in
    subst (IsToken (decimal (length bits) ++ 39 ∷ 104 ∷ digits) behind) (constant_is bits h)
    (constant (decimal (length bits)) digits behind d.some d.all (record { all = hex_all (digit_count (length bits)) (number_of bits); longest = stops_hex behind s }))

-- ---- signs

no_equals : (behind : List ℕ) → stops (λ b. eqb b 61) behind ≡ true → eqb (get_or behind 0 0) 61 ≡ false
no_equals [] s = refl
no_equals (b ∷ behind) s = not_true (eqb b 61) s

sign_text_is : (sign : Sign) (behind : List ℕ) → stands_apart (T.Sign sign) behind ≡ true → IsToken (sign_text sign) behind (T.Sign sign)
sign_text_is LeftParenthesis behind s = one_sign 40 behind LeftParenthesis refl refl refl
sign_text_is RightParenthesis behind s = one_sign 41 behind RightParenthesis refl refl refl
sign_text_is LeftBracket behind s = one_sign 91 behind LeftBracket refl refl refl
sign_text_is RightBracket behind s = one_sign 93 behind RightBracket refl refl refl
sign_text_is LeftBrace behind s = one_sign 123 behind LeftBrace refl refl refl
sign_text_is RightBrace behind s = one_sign 125 behind RightBrace refl refl refl
sign_text_is Comma behind s = one_sign 44 behind Comma refl refl refl
sign_text_is Semicolon behind s = one_sign 59 behind Semicolon refl refl refl
sign_text_is Colon behind s = one_sign 58 behind Colon refl refl refl
sign_text_is Question behind s = one_sign 63 behind Question refl refl refl
sign_text_is At behind s = one_sign 64 behind At refl refl refl
sign_text_is Tilde behind s = one_sign 126 behind Tilde refl refl refl
sign_text_is Ampersand behind s = one_sign 38 behind Ampersand refl refl refl
sign_text_is Bar behind s = one_sign 124 behind Bar refl refl refl
sign_text_is Caret behind s = one_sign 94 behind Caret refl refl refl
sign_text_is Plus behind s = one_sign 43 behind Plus refl refl refl
sign_text_is Minus behind s = one_sign 45 behind Minus refl refl refl
sign_text_is Equals behind s = one_sign 61 behind Equals refl (no_equals behind s) refl
sign_text_is DoubleEquals behind s = equality behind
sign_text_is Less behind s = one_sign 60 behind Less refl refl (no_equals behind s)
sign_text_is Becomes behind s = assignment behind

-- ---- the law

-- The octets with which a token is spelled are that token, where what stands behind them does not go on with it.
pub spelled_token : (t : Token) (behind : List ℕ) → IsSpelled t → stands_apart t behind ≡ true → IsToken (spelling t) behind t
spelled_token (T.Keyword k) behind h s = keyword_word k behind s
spelled_token (T.Sign sign) behind h s = sign_text_is sign behind s
spelled_token (T.Net n) behind h s = net_word n behind h s
spelled_token (T.Port port) behind h s = port_word port behind h s
spelled_token T.Clock behind h s = clock_word behind s
spelled_token T.Reset behind h s = reset_word behind s
spelled_token (T.Title title) behind h s = title_word title behind h s
spelled_token T.Other behind h s = absurd h
spelled_token (T.Number n) behind h s = number_text n behind h s
spelled_token T.LeadingZero behind h s = absurd h
spelled_token (T.Constant bits) behind h s = constant_word bits behind h s
spelled_token (T.BadConstant fault) behind h s = absurd h
spelled_token (T.Comment line) behind h s = comment line behind (record { all = h; longest = s })
spelled_token T.Faulty behind h s = absurd h
spelled_token T.EndOfText behind h s = absurd h

-- A text in which tokens are spelled is cut into those tokens.
pub spelled_again : {text : List ℕ} {ts : List Token} → Spells text ts → (at : ℕ) → tokens_in (lexemes_from 0 at text) ≡ ts
spelled_again ended at = ap tokens_in (no_more at)
spelled_again (blank b text ts k h) at = ap tokens_in (blank_step b text at k) ∙ spelled_again h (at + 1)
spelled_again (token t text ts h s more) at =
    ap tokens_in (token_cut at (spelled_token t text h s)) ∙ ap (λ (us : List Token). t ∷ us) (spelled_again more (at + length (spelling t)))
