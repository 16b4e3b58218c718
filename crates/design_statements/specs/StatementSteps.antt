-- The steps of the readers: which way a test of the next token goes, and the lists of names and of bindings.
use Rattle.std.proofs.Common.{◌≡◌, true, false, List, [], None, Ok, refl, sym, ap, ◌∙◌}
use Rattle.ll1_grammar.specs.Lexemes.{Lexemes}
use Rattle.ll1_grammar.specs.Rule.{◌⟫◌}
use Rattle.ll1_grammar.specs.Kinds.{among, first_token}
use Rattle.ll1_grammar.specs.Among.{by_true, by_false}
use Rattle.ll1_grammar.specs.Readers.{Reader}
use Rattle.design_lex.specs.Tokens as lex
use Rattle.design_lex.specs.declared.token.Token.{Token}
use Rattle.design_grammar.specs.declared.kind.Kind.TheVariants.{Comma, Dot, OpenBracket, Request, Inst, Chan, Stage, Buffer, Fifo, Map, Fork, Join, AsFifo, AsVr}
use Rattle.design_grammar.specs.Kinds.{code, names, word_kind}
use Rattle.design_grammar.specs.Grammar.{kind_code}
use Rattle.design_grammar.specs.Rules.{token, a_name, bound_rule}
use Rattle.design_grammar.specs.Lists.{Shortens, after_comma, item_shorter}
use Rattle.channel_types.specs.TypeGrammar.{Found, type_check}
use Rattle.design_types.specs.TypeLaw.{env, readable}
use Rattle.design_tree.specs.declared.leaves.Name.{Name}
use Rattle.design_tree.specs.declared.leaves.Reference.TheVariants as R
use Rattle.design_tree.specs.declared.expression.Expression.{Expression}
use Rattle.design_tree.specs.declared.statements.Binding.{Binding}
use Rattle.design_grammar.specs.NextToken.{IsOther, is_other, comes, comes_not}
use Rattle.design_expressions.specs.ExpressionReading.{next_name}
use Rattle.design_statements.specs.StatementReading.{optional_index, member_or_channel, scan, wide_operation, sized_operation, operation, binding, listed_bindings, bindings, drive, statement}
use Rattle.design_statements.specs.StatementLaw.{other_name_implements, other_binding_implements}

-- ---- where no token of the kinds that are reported comes, the last of the readers reads

pub no_index : (ts : Lexemes Token) → IsOther (code OpenBracket) ts → optional_index ts ≡ Ok (None, ts)
unfolding optional_index
no_index ts a = by_false _ _ _ (is_other (code OpenBracket) ts a)

pub channel_alone : (n : Name) (ts : Lexemes Token) → IsOther (code OpenBracket) ts → IsOther (code Dot) ts → member_or_channel n ts ≡ Ok (R.Channel n, ts)
unfolding member_or_channel
channel_alone n ts a b = by_false _ _ _ (is_other (code OpenBracket) ts a) ∙ by_false _ _ _ (is_other (code Dot) ts b)

-- whether a binding comes
pub some_bindings : (ts : Lexemes Token) → among names (kind_code (lex.first_token ts)) ≡ true → bindings ts ≡ listed_bindings ts
unfolding bindings
some_bindings ts a = by_true _ _ _ (comes names ts a)

pub no_bindings : (ts : Lexemes Token) (none : List Binding) → among names (kind_code (lex.first_token ts)) ≡ false → none ≡ [] → bindings ts ≡ Ok (none, ts)
unfolding bindings
no_bindings ts none a e = by_false _ _ _ (comes_not names ts a) ∙ ap (λ z. Ok (z, ts)) (sym e)

module _ (inner : Reader Token Found) (formula : Reader Token Expression) where
  pub scan_read : (ts : Lexemes Token) → IsOther (code Join) ts → IsOther (code Map) ts → wide_operation inner formula ts ≡ scan inner formula ts
  unfolding wide_operation
  scan_read ts a b = by_false _ _ _ (is_other (code Join) ts a) ∙ by_false _ _ _ (is_other (code Map) ts b)

  pub wide_read : (ts : Lexemes Token) → IsOther (code Buffer) ts → IsOther (code Fifo) ts → sized_operation inner formula ts ≡ wide_operation inner formula ts
  unfolding sized_operation
  wide_read ts a b = by_false _ _ _ (is_other (code Buffer) ts a) ∙ by_false _ _ _ (is_other (code Fifo) ts b)

  pub sized_read : (ts : Lexemes Token) → IsOther (code Stage) ts → IsOther (code Fork) ts → IsOther (code AsFifo) ts → IsOther (code AsVr) ts → operation inner formula ts ≡ sized_operation inner formula ts
  unfolding operation
  sized_read ts a b c d = by_false _ _ _ (is_other (code Stage) ts a) ∙ (by_false _ _ _ (is_other (code Fork) ts b) ∙ (by_false _ _ _ (is_other (code AsFifo) ts c) ∙ by_false _ _ _ (is_other (code AsVr) ts d)))

  pub drive_read : (ts : Lexemes Token) → IsOther (code Request) ts → IsOther (code Inst) ts → IsOther (code Chan) ts → statement inner formula ts ≡ drive ts
  unfolding statement
  drive_read ts a b c = by_false _ _ _ (is_other (code Request) ts a) ∙ (by_false _ _ _ (is_other (code Inst) ts b) ∙ by_false _ _ _ (is_other (code Chan) ts c))

-- ---- lists

-- a name after its comma takes lexemes away, with any readers of types and expressions: none is called
pub other_name_shorter : Shortens (after_comma next_name)
unfolding word_kind
other_name_shorter = item_shorter (type_check 0) (env 0) _ _ (readable 0) (token Comma ⟫ a_name) refl (other_name_implements (type_check 0) (env 0)) refl

-- and so does a binding
pub other_binding_shorter : Shortens (after_comma binding)
unfolding word_kind
other_binding_shorter = item_shorter (type_check 0) (env 0) _ _ (readable 0) (token Comma ⟫ bound_rule) refl (other_binding_implements (type_check 0) (env 0)) refl
