-- The types of frames and their numbers (RFC 9113, section 6).
use Rattle.std.specs.Prelude.{ℕ, ◌==◌, if◌then◌else◌}
use Rattle.h2_layouts.specs.declared.frame_type.FrameType.{FrameType}
use Rattle.h2_layouts.specs.declared.frame_type.FrameType.TheVariants.{Data, Headers, Priority, RstStream, Settings, PushPromise, Ping, GoAway, WindowUpdate, Continuation, Unknown}

-- a type's number
abbrev pub number_of : FrameType → ℕ
number_of Data = 0
number_of Headers = 1
number_of Priority = 2
number_of RstStream = 3
number_of Settings = 4
number_of PushPromise = 5
number_of Ping = 6
number_of GoAway = 7
number_of WindowUpdate = 8
number_of Continuation = 9
number_of (Unknown number) = number

-- a number's type
abbrev pub type_of : ℕ → FrameType
type_of number =
    if number == 0 then Data else (if number == 1 then Headers else (if number == 2 then Priority else (if number == 3 then RstStream
    else (if number == 4 then Settings else (if number == 5 then PushPromise else (if number == 6 then Ping else (if number == 7 then GoAway
    else (if number == 8 then WindowUpdate else (if number == 9 then Continuation else Unknown number)))))))))
