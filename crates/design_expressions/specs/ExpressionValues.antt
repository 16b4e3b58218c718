-- The values of the trees of expressions (the grammar of the design text: `Rules` of design_grammar).
use Rattle.std.specs.Prelude.{ℕ, zero, suc, List, [], ◌∷◌}
use Rattle.ll1_grammar.specs.Lexemes.{Lexeme}
use Rattle.ll1_grammar.specs.Rule.{Tree}
use Rattle.ll1_grammar.specs.Kinds.{first, second, inside}
use Rattle.ll1_grammar.specs.Bridge.{leaf_by, either, items}
use Rattle.design_lex.specs.declared.token.Token.{Token}
use Rattle.design_grammar.specs.declared.kind.Kind.{Kind}
use Rattle.design_grammar.specs.declared.kind.Kind.TheVariants as K
use Rattle.design_grammar.specs.Kinds.{kind_of}
use Rattle.design_grammar.specs.Grammar.{Named, named_in, number_in}
use Rattle.design_grammar.specs.Rules.{designs}
use Rattle.channel_types.specs.TypeGrammar.{Found, type_of}
use Rattle.channel_types.specs.declared.limits.TheConstants.{OPEN_TYPES}
use Rattle.design_tree.specs.declared.leaves.Name.{Name}
use Rattle.design_tree.specs.declared.leaves.Number.{Number}
use Rattle.design_tree.specs.declared.operators.Binary.{Binary}
use Rattle.design_tree.specs.declared.operators.Binary.TheVariants as B
use Rattle.design_tree.specs.declared.expression.Suffix.{Suffix}
use Rattle.design_tree.specs.declared.expression.Suffix.TheVariants as X
use Rattle.design_tree.specs.declared.expression.Expression.{Expression}
use Rattle.design_tree.specs.declared.expression.Expression.TheVariants as V
use Rattle.design_expressions.specs.declared.shapes.Shape.{Shape}
use Rattle.design_expressions.specs.declared.shapes.Shape.TheVariants.{Literal, Make, Cast, Zext, Slice, Not, Two, Mux}

abbrev pub name_from : Named → Name
name_from word = record { octets = word.0; at = word.1 }

abbrev pub number_from : ℕ × ℕ → Number
number_from n = record { value = n.0; at = n.1 }

abbrev pub variable : Named → Expression
variable word = V.Variable (name_from word)

-- the operator of two operands that a kind of words is, `cat` for each other kind
abbrev pub binary_of : Kind → Binary
binary_of K.And = B.And
binary_of K.Or = B.Or
binary_of K.Xor = B.Xor
binary_of K.Add = B.Add
binary_of K.Sub = B.Sub
binary_of K.Eq = B.Eq
binary_of K.Lt = B.Lt
binary_of kind = B.Cat

-- the number of a lexeme, and the offset of its first octet
abbrev pub number_with_offset : Lexeme Token → ℕ × ℕ
number_with_offset x = (number_in x.1, x.0.0)

-- the operator of two operands that a lexeme is, and its word
abbrev pub binary_word_in : Lexeme Token → Binary × Named
binary_word_in x = (binary_of (kind_of x.1), named_in x)

-- names, numbers and words by their trees
abbrev pub name_in : Tree Token → Name
name_in t = name_from (leaf_by designs named_in t)

abbrev pub number_at : Tree Token → Number
number_at t = number_from (leaf_by designs number_with_offset t)

abbrev pub word_at : Tree Token → Named
word_at t = leaf_by designs named_in t

-- a suffix: `.` and a name, or `[`, a number and `]`
abbrev pub suffix_in : Tree Token → Suffix
suffix_in = either (λ t. X.Field (name_in (second t))) (λ t. X.Element (number_at (first (second t))))

-- an expression and the suffixes after it
abbrev pub with_suffixes : Expression → List Suffix → Expression
with_suffixes base [] = base
with_suffixes base (s ∷ ss) = V.Part base (s ∷ ss)

-- `types` gives the values of the trees of types, `inner` those of the expressions in it
module _ (types : Tree Token → Found) where
  -- what stands between the parentheses of an operator whose word begins at the offset
  abbrev pub literal_in : ℕ → Tree Token → Expression
  literal_in at t = V.Literal at (types (first t)).0 (number_at (second (second t)))

  module _ (inner : Tree Token → Expression) where
    abbrev pub make_in : ℕ → Tree Token → Expression
    make_in at t = V.Make at (types (first t)).0 (items (λ w. inner (second w)) (second t))

    abbrev pub cast_in : ℕ → Tree Token → Expression
    cast_in at t = V.Cast at (types (first t)).0 (inner (second (second t)))

    abbrev pub zext_in : ℕ → Tree Token → Expression
    zext_in at t = V.Zext at (number_at (first t)) (inner (second (second t)))

    abbrev pub slice_in : ℕ → Tree Token → Expression
    slice_in at t = V.Slice at (number_at (first t)) (number_at (first (second (second t)))) (inner (second (second (second (second t)))))

    abbrev pub not_in : ℕ → Tree Token → Expression
    not_in at t = V.Not at (inner t)

    abbrev pub two_in : Binary → ℕ → Tree Token → Expression
    two_in operator at t = V.Binary at operator (inner (first t)) (inner (second (second t)))

    abbrev pub mux_in : ℕ → Tree Token → Expression
    mux_in at t = V.Mux at (inner (first t)) (inner (first (second (second t)))) (inner (second (second (second (second t)))))

    abbrev pub inside_in : Shape → ℕ → Tree Token → Expression
    inside_in Literal = literal_in
    inside_in Make = make_in
    inside_in Cast = cast_in
    inside_in Zext = zext_in
    inside_in Slice = slice_in
    inside_in Not = not_in
    inside_in (Two operator) = two_in operator
    inside_in Mux = mux_in

    -- the operands in parentheses, or nothing: then the word is a variable
    abbrev pub application_in : Shape → Named → Tree Token → Expression
    application_in shape word = either (λ t. inside_in shape word.1 (first (second t))) (λ t. variable word)

    abbrev pub operation_in : Shape → Tree Token → Expression
    operation_in shape t = application_in shape (word_at (first t)) (second t)

    abbrev pub binary_in : Tree Token → Expression
    binary_in t = application_in (Two (leaf_by designs binary_word_in (first t)).0) (leaf_by designs binary_word_in (first t)).1 (second t)

    abbrev pub of_bits_in : Tree Token → Expression
    of_bits_in = either (operation_in Zext) (either (operation_in Slice) (either (operation_in Not) (either binary_in (operation_in Mux))))

    abbrev pub base_in : Tree Token → Expression
    base_in = either (λ t. variable (word_at t)) (either (operation_in Literal) (either (operation_in Make) (either (operation_in Cast) of_bits_in)))

    -- the base and its suffixes
    abbrev pub level_in : Tree Token → Expression
    level_in t = with_suffixes (base_in (first t)) (items suffix_in (second t))

  -- to that many levels
  abbrev pub expression_by : ℕ → Tree Token → Expression
  expression_by zero t = variable ([], 0)
  expression_by (suc d) t = level_in (expression_by d) (inside t)

-- the value of the tree of an expression
abbrev pub expression_of : ℕ → Tree Token → Expression
expression_of = expression_by (type_of OPEN_TYPES)
