-- The peer's settings (RFC 9113, section 6.5).
use Rattle.std.specs.Prelude.{◌==◌, ◌&&◌, Bool, is_some, List, [], ◌∷◌, if◌then◌else◌}
use Rattle.h2_flow.specs.Windows.{answer_at_setting}
use Rattle.h2_history.specs.declared.verdict.Verdict.{Verdict}
use Rattle.h2_history.specs.declared.verdict.Verdict.TheVariants.{ConnectionError, Accepted}
use Rattle.h2_history.specs.Standing.{Standing}
use Rattle.h2_layouts.specs.declared.code.TheConstants.{FLOW_CONTROL_ERROR}
use Rattle.h2_layouts.specs.declared.setting.Setting.{Setting}
use Rattle.h2_layouts.specs.declared.setting.TheConstants.{HEADER_TABLE_SIZE, INITIAL_WINDOW_SIZE, MAX_CONCURRENT_STREAMS}
use Rattle.hpack.specs.Encoding.{with_peer_limit}

-- some window would be too great
abbrev pub breaks_windows : Setting → Standing → Bool
breaks_windows setting s = setting.id == INITIAL_WINDOW_SIZE && is_some (answer_at_setting setting.value s.flow).fault

-- a setting that is none of the three changes nothing
abbrev pub with_setting : Setting → Standing → Standing
with_setting setting s = if setting.id == HEADER_TABLE_SIZE then record s { writing = with_peer_limit setting.value s.writing }
    else (if setting.id == INITIAL_WINDOW_SIZE then record s { flow = (answer_at_setting setting.value s.flow).windows }
    else (if setting.id == MAX_CONCURRENT_STREAMS then record s { most = setting.value } else s))

pub record Settled : Type 0 where
  pub verdict : Verdict
  pub left : Standing

-- setting by setting, up to one that breaks a rule
abbrev pub settled : List Setting → Standing → Settled
settled [] s = record { verdict = Accepted; left = s }
settled (setting ∷ settings) s = if breaks_windows setting s then record { verdict = ConnectionError FLOW_CONTROL_ERROR; left = s }
    else settled settings (with_setting setting s)
