-- What an answer made of others says of them.
use Rattle.std.proofs.Common.{◌≡◌, ◌⊎◌, inl, inr, refl, sym, ap, Ok, Err}
use Rattle.ll1_grammar.specs.Lexemes.{Lexemes}
use Rattle.ll1_grammar.specs.Rule.{Tree}
use Rattle.ll1_grammar.specs.Parse.{ParseStop, Answer, wrap, go_on}

pub record WasRead {T : Type 0} (a : Answer T) (k : Tree T → Lexemes T → Answer T) (b : Answer T) : Type 0 where
  pub tree : Tree T
  pub rest : Lexemes T
  pub was : a ≡ Ok (tree, rest)
  pub then_was : k tree rest ≡ b

pub go_on_ok : {T : Type 0} (a : Answer T) (k : Tree T → Lexemes T → Answer T) (y : Tree T × Lexemes T) → go_on a k ≡ Ok y → WasRead a k (Ok y)
go_on_ok (Ok x) k y e = record { tree = x.0; rest = x.1; was = refl; then_was = e }
go_on_ok (Err h) k y e = absurd (cc)

pub go_on_err : {T : Type 0} (a : Answer T) (k : Tree T → Lexemes T → Answer T) (h : ParseStop T) → go_on a k ≡ Err h → (a ≡ Err h) ⊎ WasRead a k (Err h)
go_on_err (Ok x) k h e = inr (record { tree = x.0; rest = x.1; was = refl; then_was = e })
go_on_err (Err j) k h e = inl e

pub record WasWrapped {T : Type 0} (w : Tree T → Tree T) (a : Answer T) (t : Tree T) (rest : Lexemes T) : Type 0 where
  pub tree : Tree T
  pub was : a ≡ Ok (tree, rest)
  pub is : t ≡ w tree

pub ok_is : {T : Type 0} (a b : Tree T × Lexemes T) → let r : Answer T = Ok a in let s : Answer T = Ok b in r ≡ s → a ≡ b
ok_is a b e = cc

pub ok_parts : {T : Type 0} (a b : Tree T) (x y : Lexemes T) → let r : Answer T = Ok (a, x) in let s : Answer T = Ok (b, y) in r ≡ s → (a ≡ b) × (x ≡ y)
ok_parts a b x y e = let q = ok_is (a, x) (b, y) e in (ap (λ z. z.0) q, ap (λ z. z.1) q)

pub wrap_ok : {T : Type 0} (w : Tree T → Tree T) (a : Answer T) (t : Tree T) (rest : Lexemes T) → wrap w a ≡ Ok (t, rest) → WasWrapped w a t rest
wrap_ok w (Ok x) t rest e =
    let p = ok_parts (w x.0) t x.1 rest e in record { tree = x.0; was = ap (λ z. Ok (x.0, z)) p.1; is = sym p.0 }
wrap_ok w (Err h) t rest e = absurd (cc)

pub wrap_err : {T : Type 0} (w : Tree T → Tree T) (a : Answer T) (h : ParseStop T) → wrap w a ≡ Err h → a ≡ Err h
wrap_err w (Ok x) h e = absurd (cc)
wrap_err w (Err j) h e = e

-- an answer is no refusal
pub not_both : {T : Type 0} (x : Tree T × Lexemes T) (h : ParseStop T) → let a : Answer T = Ok x in let b : Answer T = Err h in a ≡ b → ⊥
not_both x h e = cc

pub err_is : {T : Type 0} (h j : ParseStop T) → let a : Answer T = Err h in let b : Answer T = Err j in a ≡ b → h ≡ j
err_is h j e = cc
