mod FirstBreaks
mod LineCases
mod StepLemmas
mod TextLaws
