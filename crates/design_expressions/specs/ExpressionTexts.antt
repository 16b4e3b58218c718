-- The laws of the reader of expressions: what it reads are the texts of the grammar's rule within the limits.
use Rattle.std.specs.Prelude.{refl}
use Rattle.ll1_grammar.specs.WithoutLimits.{no_check}
use Rattle.design_grammar.specs.Rules.{an_expression}
use Rattle.design_expressions.specs.declared.limits.TheConstants.{OPEN_EXPRESSIONS}
use Rattle.design_expressions.specs.ExpressionValues.{expression_of}
use Rattle.design_expressions.specs.ExpressionReading.{expression_at}
use Rattle.design_expressions.specs.ExpressionLaw.{expression_implements}
use Rattle.design_expressions.specs.WithinLimits.{AreFound, AreRead, AreRefused, are_found, are_read, are_refused}

-- What is read is the text of an expression, each of these texts is read, and all else is refused where it stops to be one.
abbrev pub ExpressionsFound : Type 0
ExpressionsFound = AreFound an_expression (expression_of OPEN_EXPRESSIONS) (expression_at OPEN_EXPRESSIONS)

abbrev pub ExpressionsRead : Type 0
ExpressionsRead = AreRead an_expression (expression_of OPEN_EXPRESSIONS) (expression_at OPEN_EXPRESSIONS)

abbrev pub OthersRefused : Type 0
OthersRefused = AreRefused an_expression (expression_of OPEN_EXPRESSIONS) (expression_at OPEN_EXPRESSIONS)

pub expressions_found : ExpressionsFound
expressions_found = are_found an_expression (expression_of OPEN_EXPRESSIONS) (expression_at OPEN_EXPRESSIONS) refl (expression_implements OPEN_EXPRESSIONS no_check)

pub expressions_read : ExpressionsRead
expressions_read = are_read an_expression (expression_of OPEN_EXPRESSIONS) (expression_at OPEN_EXPRESSIONS) refl (expression_implements OPEN_EXPRESSIONS no_check)

pub others_refused : OthersRefused
others_refused = are_refused an_expression (expression_of OPEN_EXPRESSIONS) (expression_at OPEN_EXPRESSIONS) refl (expression_implements OPEN_EXPRESSIONS no_check)
