-- The laws of the reader of designs: what it reads are the texts of the grammar's rule within the limits.
use Rattle.std.specs.Prelude.{◌≡◌, ℕ, true, refl}
use Rattle.ll1_grammar.specs.Rule.{Tree}
use Rattle.ll1_grammar.specs.Kinds.{is_ll1}
use Rattle.design_lex.specs.declared.token.Token.{Token}
use Rattle.design_grammar.specs.Kinds.{word_kind}
use Rattle.design_grammar.specs.Rules.{designs, design_rule}
use Rattle.channel_types.specs.declared.limits.TheConstants.{OPEN_TYPES}
use Rattle.channel_types.specs.TypeGrammar.{type_of}
use Rattle.design_tree.specs.declared.design.DesignTree.{DesignTree}
use Rattle.design_expressions.specs.declared.limits.TheConstants.{OPEN_EXPRESSIONS}
use Rattle.design_expressions.specs.WithinLimits.{AreFound, AreRead, AreRefused, are_found, are_read, are_refused}
use Rattle.design_statements.specs.StatementTexts.{statement_of}
use Rattle.design_reader.specs.DesignValues.{design_in}
use Rattle.design_reader.specs.DesignReading.{design_at}
use Rattle.design_reader.specs.DesignSteps.{designs_read}

-- the value of the tree of a design, with so many levels of expressions
abbrev pub design_of : ℕ → Tree Token → DesignTree
design_of levels = design_in (type_of OPEN_TYPES) (statement_of levels)

-- What is read is the text of a design, each of these texts is read, and all else is refused where it stops to be one.
abbrev pub DesignsFound : Type 0
DesignsFound = AreFound design_rule (design_of OPEN_EXPRESSIONS) (design_at OPEN_TYPES OPEN_EXPRESSIONS)

abbrev pub DesignsRead : Type 0
DesignsRead = AreRead design_rule (design_of OPEN_EXPRESSIONS) (design_at OPEN_TYPES OPEN_EXPRESSIONS)

abbrev pub OthersRefused : Type 0
OthersRefused = AreRefused design_rule (design_of OPEN_EXPRESSIONS) (design_at OPEN_TYPES OPEN_EXPRESSIONS)

-- one token decides which way the reader goes
pub designs_decided : is_ll1 designs design_rule ≡ true
unfolding word_kind
designs_decided = refl

pub designs_found : DesignsFound
designs_found = are_found design_rule (design_of OPEN_EXPRESSIONS) (design_at OPEN_TYPES OPEN_EXPRESSIONS) designs_decided (designs_read OPEN_EXPRESSIONS)

pub designs_only : DesignsRead
designs_only = are_read design_rule (design_of OPEN_EXPRESSIONS) (design_at OPEN_TYPES OPEN_EXPRESSIONS) designs_decided (designs_read OPEN_EXPRESSIONS)

pub others_refused : OthersRefused
others_refused = are_refused design_rule (design_of OPEN_EXPRESSIONS) (design_at OPEN_TYPES OPEN_EXPRESSIONS) designs_decided (designs_read OPEN_EXPRESSIONS)
