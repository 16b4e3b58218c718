-- A reader without limits answers as one with limits does, until a limit is broken.
use Rattle.std.proofs.Common.{◌≡◌, ℕ, zero, suc, Bool, true, false, ◌++◌, length, if◌then◌else◌, ◌↔◌, refl, sym, ap, subst, ◌∙◌, Ok, Err}
use Rattle.ll1_grammar.specs.Lexemes.{Lexeme, Lexemes}
use Rattle.ll1_grammar.specs.Rule.{Kinds, Rule, Tree, Grammar}
use Rattle.ll1_grammar.specs.Rule.Rule.{empty, one, seq, alt, star, call, checked}
use Rattle.ll1_grammar.specs.Rule.Tree.{pair, left, right, last, turn}
use Rattle.ll1_grammar.specs.Kinds.{among, spell, first_kind, first_set, behind, is_ll1}
use Rattle.ll1_grammar.specs.declared.refusal.TokenRefusal.{TokenRefusal}
use Rattle.ll1_grammar.specs.Trees.{Checks}
use Rattle.ll1_grammar.specs.Parse.{Answer, Parser, wrap, go_on, turns, parse, checked_by}
use Rattle.ll1_grammar.specs.Among.{among_none, no_lexeme}
use Rattle.ll1_grammar.specs.Ll1.{Calls, seq_ll1, alt_ll1, star_ll1, call_ll1, checked_ll1}
use Rattle.ll1_grammar.specs.KeptLimits.{CallsKeep}
use Rattle.ll1_grammar.specs.Exact.{IsExact}
use Rattle.ll1_grammar.specs.Steps.{nothing_behind}
use Rattle.ll1_grammar.specs.Law.{exact_rule}
use Rattle.ll1_grammar.specs.Parse.ParseStop.{unwanted, broken}

-- no check refuses
abbrev pub no_check : {T : Type 0} → Checks T
no_check c t = 0

-- the lists have the kinds of the same lexemes
abbrev pub SameKinds : {T : Type 0} → Grammar T → Kinds → Kinds → Type 0
SameKinds {T} g ks js = (x : Lexeme T) → (among ks (g.kind x.1) ≡ true) ↔ (among js (g.kind x.1) ≡ true)

-- the same tree, or the same lexeme refused
abbrev pub Agrees : {T : Type 0} → Grammar T → Answer T → Answer T → Type 0
Agrees g (Ok x) b = b ≡ Ok x
Agrees g (Err (unwanted ks rest)) b = (js : Kinds) × (b ≡ Err (unwanted js rest)) × SameKinds g ks js
Agrees g (Err (broken f rest)) b = Unit {0}

module _ {T : Type 0} (g : Grammar T) where
  pub agrees_itself : (a : Answer T) → Agrees g a a
  agrees_itself (Ok x) = refl
  agrees_itself (Err (unwanted ks rest)) = (ks, refl, λ x. ((λ h. h), (λ h. h)))
  agrees_itself (Err (broken f rest)) = tt

  pub agrees_wrap : (w : Tree T → Tree T) (a b : Answer T) → Agrees g a b → Agrees g (wrap w a) (wrap w b)
  agrees_wrap w (Ok x) b h = ap (λ z. wrap w z) h
  agrees_wrap w (Err (unwanted ks rest)) b h = (h.0, ap (λ z. wrap w z) h.1, h.2)
  agrees_wrap w (Err (broken f rest)) b h = tt

  pub agrees_go_on : (a b : Answer T) (k j : Tree T → Lexemes T → Answer T) → Agrees g a b → ((t : Tree T) (us : Lexemes T) → a ≡ Ok (t, us) → Agrees g (k t us) (j t us)) → Agrees g (go_on a k) (go_on b j)
  agrees_go_on (Ok x) b k j h f = subst (λ z. Agrees g (k x.0 x.1) (go_on z j)) (sym h) (f x.0 x.1 refl)
  agrees_go_on (Err (unwanted ks rest)) b k j h f = (h.0, ap (λ z. go_on z j) h.1, h.2)
  agrees_go_on (Err (broken f rest)) b k j h i = tt

  agrees_check : (n : ℕ) (t : Tree T) (us : Lexemes T) → Agrees g (checked_by n t us) (checked_by 0 t us)
  agrees_check zero t us = refl
  agrees_check (suc n) t us = tt

  agrees_test : (b : Bool) (x y u v : Answer T) → Agrees g x u → Agrees g y v → Agrees g (if b then x else y) (if b then u else v)
  agrees_test true x y u v h k = h
  agrees_test false x y u v h k = k

module _ {T : Type 0} (g : Grammar T) (known : Calls g) (check : Checks T) (called : ℕ → Tree T → Type 0) (bad : ℕ → TokenRefusal → ℕ → Tree T → Type 0) (keep : CallsKeep g called bad)
    (env free : ℕ → Parser T) (envs : (n : ℕ) → among g.calls n ≡ true → IsExact g check called bad (call n) (env n))
    (agree : (n : ℕ) → among g.calls n ≡ true → (also : Kinds) (ts : Lexemes T) → among also (first_kind g ts) ≡ false → Agrees g (env n also ts) (free n also ts)) where
  -- behind what was read stands nothing that was reported, nor with which that goes on
  reported_off : (r : Rule) (e : is_ll1 g r ≡ true) (also : Kinds) (ts : Lexemes T) (a : Tree T) (us : Lexemes T) → among also (first_kind g ts) ≡ false → parse g check env r also ts ≡ Ok (a, us)
      → among (behind g r a also) (first_kind g us) ≡ false
  reported_off r e also ts a us m d =
      let x = (exact_rule g known check called bad keep env envs r e).sound also ts a us d in
      nothing_behind g known r a also _ x.2 (λ b. ap (λ z. among also (first_kind g z)) (sym (x.1 ∙ ap (λ z. z ++ us) (no_lexeme (spell a) b))) ∙ m)

  agrees_turns : (r : Rule) → is_ll1 g r ≡ true → ((also : Kinds) (ts : Lexemes T) → among also (first_kind g ts) ≡ false → Agrees g (parse g check env r also ts) (parse g no_check free r also ts))
      → (n : ℕ) (also : Kinds) (ts : Lexemes T) → among also (first_kind g ts) ≡ false → Agrees g (turns g r (parse g check env r) n also ts) (turns g r (parse g no_check free r) n also ts)
  agrees_turns r e h zero also ts m = refl
  agrees_turns r e h (suc n) also ts m =
      agrees_test g (among (first_set g r) (first_kind g ts)) _ _ _ _
      (agrees_go_on g (parse g check env r also ts) (parse g no_check free r also ts) (λ a us. wrap (turn a) (turns g r (parse g check env r) n (behind g r a also) us))
      (λ a us. wrap (turn a) (turns g r (parse g no_check free r) n (behind g r a also) us)) (h also ts m)
      (λ a us d. agrees_wrap g (turn a) (turns g r (parse g check env r) n (behind g r a also) us) (turns g r (parse g no_check free r) n (behind g r a also) us)
      (agrees_turns r e h n (behind g r a also) us (reported_off r e also ts a us m d))))
      (agrees_itself g (Ok (last, ts)))

  pub parse_agrees : (r : Rule) → is_ll1 g r ≡ true → (also : Kinds) (ts : Lexemes T) → among also (first_kind g ts) ≡ false → Agrees g (parse g check env r also ts) (parse g no_check free r also ts)
  parse_agrees empty e also ts m = refl
  parse_agrees (one ks) e also ts m = agrees_itself g (parse g check env (one ks) also ts)
  parse_agrees (seq r s) e also ts m =
      let p = seq_ll1 g r s e in
      agrees_go_on g (parse g check env r also ts) (parse g no_check free r also ts) (λ a us. wrap (pair a) (parse g check env s (behind g r a also) us))
      (λ a us. wrap (pair a) (parse g no_check free s (behind g r a also) us)) (parse_agrees r p.0 also ts m)
      (λ a us d. agrees_wrap g (pair a) (parse g check env s (behind g r a also) us) (parse g no_check free s (behind g r a also) us)
      (parse_agrees s p.1 (behind g r a also) us (reported_off r p.0 also ts a us m d)))
  parse_agrees (alt r s) e also ts m =
      let p = alt_ll1 g r s e in
      agrees_choice (among (first_set g r) (first_kind g ts)) refl
      (agrees_wrap g left (parse g check env r also ts) (parse g no_check free r also ts) (parse_agrees r p.0 also ts m))
      (λ d. agrees_wrap g right (parse g check env s (first_set g r ++ also) ts) (parse g no_check free s (first_set g r ++ also) ts)
      (parse_agrees s p.1 (first_set g r ++ also) ts (among_none (first_set g r) also _ d m)))
    where
      agrees_choice : (b : Bool) → among (first_set g r) (first_kind g ts) ≡ b → Agrees g (wrap left (parse g check env r also ts)) (wrap left (parse g no_check free r also ts))
          → (among (first_set g r) (first_kind g ts) ≡ false → Agrees g (wrap right (parse g check env s (first_set g r ++ also) ts)) (wrap right (parse g no_check free s (first_set g r ++ also) ts)))
          → Agrees g (if b then wrap left (parse g check env r also ts) else wrap right (parse g check env s (first_set g r ++ also) ts))
          (if b then wrap left (parse g no_check free r also ts) else wrap right (parse g no_check free s (first_set g r ++ also) ts))
      agrees_choice true d h k = h
      agrees_choice false d h k = k d
  parse_agrees (star r) e also ts m =
      let p = star_ll1 g r e in agrees_turns r p.0 (λ more us k. parse_agrees r p.0 more us k) (length ts) also ts m
  parse_agrees (call n) e also ts m = agree n (call_ll1 g n e).0 also ts m
  parse_agrees (checked c r) e also ts m =
      agrees_go_on g (parse g check env r also ts) (parse g no_check free r also ts) (λ t us. checked_by (check c t) t us) (λ t us. checked_by 0 t us)
      (parse_agrees r (checked_ll1 g c r e).0 also ts m) (λ t us d. agrees_check g (check c t) t us)
