-- What a line of a script means, part by part.
use Rattle.std.specs.Prelude.{ℕ, Bool, nat_le, Option, Some, None, Result, Ok, Err, if◌then◌else◌, length}
use Rattle.esi_base.specs.declared.place.Refusal.{Refusal}
use Rattle.small_text.specs.Lines.{Part, Line, place_of}
use Rattle.small_text.specs.Hexadecimal.{octets_of}
use Rattle.script_text.specs.declared.earlier.Earlier.{Earlier}
use Rattle.script_text.specs.declared.limits.TheConstants.{SCRIPT_ATTACHES, SCRIPT_LINES}
use Rattle.script_text.specs.declared.rule.ScriptRule.{ScriptRule}
use Rattle.script_text.specs.declared.rule.ScriptRule.TheVariants.{UnknownWord, PartCount, BadPart, AttachAfterSend, NotAttached, PastLimit}
use Rattle.script_text.specs.declared.step.ScriptStep.{ScriptStep}
use Rattle.script_text.specs.declared.step.ScriptStep.TheVariants.{Attach, Send, Expect, Listing}
use Rattle.script_text.specs.RuleNumbers.{rule_number}
use Rattle.script_text.specs.ScriptLines.{ScriptForm, status_of, count_of, is_long, is_status, is_attached}
use Rattle.script_text.specs.ScriptLines.ScriptForm.{unknown, miscounted, attaching, attaching_with, sending, sending_with, expecting, listing}

-- A rule is broken at a part of a line.
abbrev pub refuse_at : ScriptRule → Line → Part → Result ScriptStep Refusal
refuse_at rule line part = Err (record { number = rule_number rule; place = place_of line.number part })

-- A rule is broken at a part where this holds, and else the line goes on.
abbrev pub unless : Bool → ScriptRule → Line → Part → Result ScriptStep Refusal → Result ScriptStep Refusal
unless broken rule line part next = if broken then refuse_at rule line part else next

-- What a part is read as, and then what comes of it.
abbrev pub with_read : {A : Type 0} → Line → Part → Option A → (A → Result ScriptStep Refusal) → Result ScriptStep Refusal
with_read line part None next = refuse_at BadPart line part
with_read line part (Some value) next = next value

-- The status after its word.
abbrev pub with_status : Line → Part → Part → (ℕ → ScriptStep) → Result ScriptStep Refusal
with_status line word status step =
    if is_status word then with_read line status (status_of status) (λ number. Ok (step number)) else refuse_at UnknownWord line word

-- An `attach` line that is allowed.
abbrev pub attached : Earlier → ℕ → Line → Part → Result ScriptStep Refusal → Result ScriptStep Refusal
attached earlier lines line name next =
    unless earlier.sent AttachAfterSend line line.word
    (unless (nat_le SCRIPT_LINES lines) PastLimit line line.word
    (unless (nat_le SCRIPT_ATTACHES (length earlier.names)) PastLimit line line.word
    (unless (is_long name) PastLimit line name next)))

-- A line that is allowed, and its name.
abbrev pub named : ℕ → Line → Part → Result ScriptStep Refusal → Result ScriptStep Refusal
named lines line name next = unless (nat_le SCRIPT_LINES lines) PastLimit line line.word (unless (is_long name) PastLimit line name next)

abbrev pub form_means : Earlier → ℕ → Line → ScriptForm → Result ScriptStep Refusal
form_means earlier lines line unknown = refuse_at UnknownWord line line.word
form_means earlier lines line miscounted = refuse_at PartCount line line.word
form_means earlier lines line (attaching name) = attached earlier lines line name (Ok (Attach name.octets 0))
form_means earlier lines line (attaching_with name word status) =
    attached earlier lines line name (with_status line word status (λ number. Attach name.octets number))
form_means earlier lines line (sending name octets) =
    named lines line name (with_read line octets (octets_of octets.octets) (λ value. Ok (Send name.octets value 0)))
form_means earlier lines line (sending_with name octets word status) =
    named lines line name (with_read line octets (octets_of octets.octets) (λ value. with_status line word status (λ number. Send name.octets value number)))
form_means earlier lines line (expecting name count) =
    unless (nat_le SCRIPT_LINES lines) PastLimit line line.word
    (if is_attached earlier.names name.octets
    then unless (is_long name) PastLimit line name (with_read line count (count_of count) (λ number. Ok (Expect name.octets number)))
    else refuse_at NotAttached line name)
form_means earlier lines line listing = unless (nat_le SCRIPT_LINES lines) PastLimit line line.word (Ok Listing)
